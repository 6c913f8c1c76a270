use Rattle.std.proofs.Common.{◌≡◌, ℕ, ap, ◌∙◌, arith, Result, Ok}
use Rattle.sha_tree.specs.Tree.{block_count}
use Rattle.ro_file.specs.declared.files.RoFault.{RoFault}
use Rattle.ro_file.specs.Files.{MeasuredFile}
use Rattle.ro_file.proofs.Rules.{short, other, broken, too_long, good}
use Rattle.ro_file.proofs.files.described.Goals as goal

pub returns-then-bytes-lt256-clause-answer : goal.returns-then-bytes-lt256-clause-answer
returns-then-bytes-lt256-clause-answer c = short c.args.file c.args.digest.now c.args.bytes.now c.if-bytes-lt256.true

pub returns-then-ne-clause-answer : goal.returns-then-ne-clause-answer
returns-then-ne-clause-answer c =
    other c.args.file c.args.digest.now c.args.bytes.now _ _ c.if-bytes-lt256.false c.copy_from_slice.ensures.after c.digest.ensures (c.if-ne.ensures)

pub returns-in-Err-clause-answer : goal.returns-in-Err-clause-answer
returns-in-Err-clause-answer c =
    broken c.args.file c.args.digest.now c.args.bytes.now _ _ c.if-bytes-lt256.false c.copy_from_slice.ensures.after c.digest.ensures (c.if-ne.ensures) c.in-Err.fault c.in-Err.ensures.refused

pub returns-then-size-gt-LIMIT-clause-answer : goal.returns-then-size-gt-LIMIT-clause-answer
returns-then-size-gt-LIMIT-clause-answer c =
    too_long c.args.file c.args.digest.now c.args.bytes.now _ _ c.if-bytes-lt256.false c.copy_from_slice.ensures.after c.digest.ensures (c.if-ne.ensures)
    c.in-Ok.descriptor c.in-Ok.ensures.found.0 c.in-Ok.ensures.found.1 c.if-size-gt-LIMIT.true

pub returns-clause-answer : goal.returns-clause-answer
returns-clause-answer c =
    let d = c.in-Ok.descriptor in
    let blocks : c.div_ceil.result ≡ block_count d.size = omega arith in
    let made : MeasuredFile = record { file = c.args.file; digest = c.args.digest.now; size = d.size; measure = record { blocks = c.div_ceil.result; salt = d.salt; root = d.root } } in
    ap (λ (n : ℕ). let f : MeasuredFile = record made { measure = record { blocks = n; salt = d.salt; root = d.root } } in let r : Result MeasuredFile RoFault = Ok f in r) blocks
    ∙ good c.args.file c.args.digest.now c.args.bytes.now _ _ c.if-bytes-lt256.false c.copy_from_slice.ensures.after c.digest.ensures (c.if-ne.ensures)
    d c.in-Ok.ensures.found.0 c.in-Ok.ensures.found.1 c.if-size-gt-LIMIT.false
