-- The files of the machine that stands after boot were opened by what boot heard.
use Rattle.std.proofs.Common.{◌≡◌, ℕ, List, ap, sym, subst}
use Rattle.mg_base.specs.declared.values.Digest.{Digest}
use Rattle.host_traits.specs.Told.{Exchanges}
use Rattle.ro_file.specs.Files.{MeasuredFile}
use Rattle.ro_file.specs.Opening.{WasOpened}
use Rattle.guest_plan.specs.Plans.{Known}
use Rattle.guest_plan.specs.Spelling.{IsPlan}
use Rattle.guest_names.proofs.Making.{files_opened}
use Rattle.guest_rules.specs.Run.{AreOpened}
use Rattle.guest_cli.specs.Booted.{Opened, Opens, first_state}

pub opened_first : (text : List ℕ) (plan : Known) (own : Exchanges) (o : Opened) (entropy : List ℕ) → IsPlan text plan → Opens plan entropy own o → AreOpened (first_state plan o) own
opened_first text plan own o entropy grammar opens n f there =
    let p = files_opened text plan entropy own _ grammar opens.boots n f there in
    let digest : p.digest ≡ f.digest = sym (ap (λ (x : MeasuredFile). x.digest) p.opened.describes.file_is) in
    subst (λ (d : Digest). WasOpened f.file d own f) digest (subst (λ (k : ℕ). WasOpened k p.digest own f) (sym p.number_is) p.opened)
