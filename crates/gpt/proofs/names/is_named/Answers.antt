use Rattle.std.proofs.Common.{ℕ, ◌+◌, length, drop, sym, ap, ◌∙◌, arith}
use Rattle.std.proofs.lemmas.Iterator.{YieldsList-from_chars}
use Rattle.std.proofs.lemmas.Iterator.Consumers.{YieldsList-turn, YieldsList-end}
use Rattle.std.proofs.lemmas.List.{at_drop_all, length_push}
use Rattle.std.specs.List.{flat_map}
use Rattle.std.specs.Str.{bytes_eq, chars}
use Rattle.std.specs.Char.Escape.{encode_utf16}
use Rattle.gpt.specs.Names.{name_units}
use Rattle.gpt.proofs.NameLaws.{units_some, units_none, units_from, at_end}
use Rattle.gpt.proofs.names.is_named.Goals as goal

pub loop-c-preserved : goal.loop-c-preserved
loop-c-preserved c =
    let t = YieldsList-turn (YieldsList-from_chars c.args.text.now c.utf8.text cc) c.loop-c.yielded _ c.loop-c.yielded_by _ _ c.in-Some.c c.in-Some.is c.next.ensures.steps in
    let cs = chars c.args.text.now in
    let n = length c.loop-c.yielded in
    let more = c.in-Some-after_char.more.now in
    let later = flat_map encode_utf16 (drop (n + 1) cs) in
    ap (λ (k : ℕ). bytes_eq (name_units more) (flat_map encode_utf16 (drop k cs))) (length_push c.loop-c.yielded c.in-Some.c)
    ∙ sym (units_some (encode_utf16 c.in-Some.c) c.loop-c.rest.now more later c.in-Some-after_char.ensures)
    ∙ ap (bytes_eq (name_units c.loop-c.rest.now)) (sym (units_from cs n c.in-Some.c t))
    ∙ c.loop-c.invariant

pub returns-in-None-after_char : goal.returns-in-None-after_char
returns-in-None-after_char c =
    let t = YieldsList-turn (YieldsList-from_chars c.args.text.now c.utf8.text cc) c.loop-c.yielded _ c.loop-c.yielded_by _ _ c.in-Some.c c.in-Some.is c.next.ensures.steps in
    let cs = chars c.args.text.now in
    let n = length c.loop-c.yielded in
    sym (units_none (encode_utf16 c.in-Some.c) c.loop-c.rest.now (flat_map encode_utf16 (drop (n + 1) cs)) c.in-None-after_char.ensures)
    ∙ ap (bytes_eq (name_units c.loop-c.rest.now)) (sym (units_from cs n c.in-Some.c t))
    ∙ c.loop-c.invariant

pub returns : goal.returns
returns c =
    let t = YieldsList-end (YieldsList-from_chars c.args.text.now c.utf8.text cc) c.loop-c.yielded _ c.loop-c.yielded_by _ _ c.in-None.is c.next.ensures.steps in
    let cs = chars c.args.text.now in
    c.is_end.ensures ∙ sym (at_end c.loop-c.rest.now)
    ∙ ap (bytes_eq (name_units c.loop-c.rest.now)) (sym (at_drop_all (flat_map encode_utf16) cs (length c.loop-c.yielded) (omega (arith, t.1))))
    ∙ c.loop-c.invariant
