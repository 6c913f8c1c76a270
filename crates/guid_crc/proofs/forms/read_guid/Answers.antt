use Rattle.std.proofs.Common.{rules, ◌≡◌, length, sym, ◌∙◌, true≢false}
use Rattle.guid_crc.proofs.Spelled.{read_text, read_same, text_same, read_other, read_unparsed}
use Rattle.guid_crc.proofs.forms.read_guid.Goals as goal

pub returns-in_default-clause-value : goal.returns-in_default-clause-value
returns-in_default-clause-value c =
    sym (read_unparsed c.args.text.now (λ u is_parsed. absurd (true≢false (sym (c.in_default.ensures.ok.1 (u, is_parsed))))))

pub returns-in_default-clause-only : goal.returns-in_default-clause-only
returns-in_default-clause-only c =
    λ g is_guid spelled. returns-in_default-clause-value c ∙ read_text c.args.text.now g is_guid spelled

pub returns-then-ne-clause-value : goal.returns-then-ne-clause-value
returns-then-ne-clause-value c =
    let len : length c.in-Ok.id ≡ 16 = search rules in
    let shown = c.encode_lower-again.ensures.text in
    sym (read_other c.args.text.now c.in-Ok.id c.encode_lower-again.result.now len c.in-Ok.ensures.bytes (rw c.hyphenated.ensures at shown) (sym c.ne.ensures ∙ c.if-ne.true))

pub returns-then-ne-clause-only : goal.returns-then-ne-clause-only
returns-then-ne-clause-only c =
    λ g is_guid spelled. returns-then-ne-clause-value c ∙ read_text c.args.text.now g is_guid spelled

pub returns-clause-found : goal.returns-clause-found
returns-clause-found c =
    let len : length c.in-Ok.id ≡ 16 = search rules in
    let shown = c.encode_lower-again.ensures.text in
    rw c.into_bytes.ensures (text_same c.args.text.now c.in-Ok.id c.encode_lower-again.result.now len (rw c.hyphenated.ensures at shown) (sym c.ne.ensures ∙ c.if-ne.false))

pub returns-clause-value : goal.returns-clause-value
returns-clause-value c =
    let len : length c.in-Ok.id ≡ 16 = search rules in
    let shown = c.encode_lower-again.ensures.text in
    rw c.into_bytes.ensures (sym (read_same c.args.text.now c.in-Ok.id c.encode_lower-again.result.now len c.in-Ok.ensures.bytes (rw c.hyphenated.ensures at shown) (sym c.ne.ensures ∙ c.if-ne.false)))

pub returns-clause-only : goal.returns-clause-only
returns-clause-only c =
    λ g is_guid spelled. returns-clause-value c ∙ read_text c.args.text.now g is_guid spelled
