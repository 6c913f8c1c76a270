use Rattle.std.proofs.Common.{◌≡◌, ◌≤◌, true, length, take, Result, subst, sym, arith, rules}
use Rattle.std.proofs.lemmas.List.{take_rest}
use Rattle.std.specs.Str.{bytes_eq}
use Rattle.composite_spec.specs.declared.kinds.SpecFault.{SpecFault}
use Rattle.composite_spec.specs.Said.{magic, Composite, composite}
use Rattle.composite_spec.specs.Reading.{disk_by, Gives}
use Rattle.composite_spec.proofs.Rules.{decoded_is, decoded_fails}
use Rattle.composite_spec.proofs.reading.decoded.Goals as goal

pub returns-in-Err : goal.returns-in-Err
returns-in-Err c =
    let begins : bytes_eq (take 15 c.args.bytes.now) magic ≡ true = search rules in
    let few : length c.args.bytes.now ≤ 1048576 = omega arith in
    decoded_fails c.args.bytes.now c.in-Err.fault begins few (rw take_rest at c.in-Err.ensures)

pub returns-in-Ok : goal.returns-in-Ok
returns-in-Ok c =
    let begins : bytes_eq (take 15 c.args.bytes.now) magic ≡ true = search rules in
    let few : length c.args.bytes.now ≤ 1048576 = omega arith in
    let same = decoded_is c.args.bytes.now (disk_by c.in-Ok.disk) begins few (rw take_rest at c.in-Ok.ensures) in
    subst (λ (x : Result Composite SpecFault). Gives composite c.judged.result x) (sym same) c.judged.ensures
