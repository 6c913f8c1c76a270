use Rattle.std.proofs.Common.{List, [], ◌∷◌, ◌++◌, ap, subst, sym, ◌∙◌}
use Rattle.verity_path.specs.declared.device.Device.{Device}
use Rattle.guest_boot.specs.Booting.{AreItems}
use Rattle.guest_boot.proofs.Makes.{device_added, items_push}
use Rattle.guest_boot.proofs.lines.add_device.Goals as goal

pub returns-in-Err-clause-items : goal.returns-in-Err-clause-items
returns-in-Err-clause-items g c = subst AreItems (sym c.reserve.ensures.items) c.requires.items

pub returns-in-Err-open_apk-clause-items : goal.returns-in-Err-open_apk-clause-items
returns-in-Err-open_apk-clause-items g c = subst AreItems (sym c.reserve.ensures.items) c.requires.items

pub returns-clause-did : goal.returns-clause-did
returns-clause-did g c =
    device_added c.args.disk c.args.parts _ c.args.items.now.items _ _ _ c.in-Ok-open_apk.device (c.push_reserved.ensures.items ∙ ap (λ (z : List Device). z ++ c.in-Ok-open_apk.device ∷ []) c.reserve.ensures.items) c.in-Ok-open_apk.ensures.opened

pub returns-clause-items : goal.returns-clause-items
returns-clause-items g c =
    subst AreItems (sym (c.push_reserved.ensures.items ∙ ap (λ (z : List Device). z ++ c.in-Ok-open_apk.device ∷ []) c.reserve.ensures.items))
    (items_push _ _ c.requires.items (record { least = c.in-Ok-open_apk.ensures.least; most = c.in-Ok-open_apk.ensures.most; suits = c.in-Ok-open_apk.ensures.suits }))
