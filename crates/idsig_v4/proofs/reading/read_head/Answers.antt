use Rattle.std.proofs.Common.{◌≡◌, Result, Ok, Err, sym, ◌∙◌, rules}
use Rattle.std.specs.Prelude.{IfOk}
use Rattle.idsig_v4.specs.declared.head.Head.{Head}
use Rattle.idsig_v4.specs.declared.head.IdsigFault.{IdsigFault}
use Rattle.idsig_v4.specs.Grammar.{IsFront}
use Rattle.idsig_v4.specs.Reading.{Gives, head_of}
use Rattle.idsig_v4.proofs.Spelled.{found, again, front_of, whole_of}
use Rattle.idsig_v4.proofs.reading.read_head.Goals as goal

given : (r : Result Head IdsigFault) (read : Result Head IdsigFault) → Gives (λ h. h) r read → r ≡ read
given (Ok h) read e = sym e
given (Err fault) read e = sym e

if_ok : (r : Result Head IdsigFault) (P : Head → Type 0) → ((h : Head) → r ≡ Ok h → P h) → IfOk r P
if_ok (Ok h) P f = f h (λ _. Ok h)
if_ok (Err fault) P f = tt

pub returns-clause-exact : goal.returns-clause-exact
returns-clause-exact c = given c.head_of.result (head_of c.args.bytes.now c.args.total) c.head_of.ensures

pub returns-clause-found : goal.returns-clause-found
returns-clause-found c =
    let e = given c.head_of.result (head_of c.args.bytes.now c.args.total) c.head_of.ensures in
    if_ok c.head_of.result (λ h. IsFront c.args.bytes.now c.args.total h) (λ h is. found c.args.bytes.now c.args.total h c.requires (λ i. search rules) (sym e ∙ is))

pub returns-clause-only : goal.returns-clause-only
returns-clause-only c =
    let e = given c.head_of.result (head_of c.args.bytes.now c.args.total) c.head_of.ensures in
    λ h f. e ∙ again c.args.bytes.now c.args.total h c.requires f

pub returns-clause-files : goal.returns-clause-files
returns-clause-files c =
    let b = c.args.bytes.now in
    let e = given c.head_of.result (head_of b c.args.total) c.head_of.ensures in
    λ file h len first. (
      λ is. whole_of file b c.args.total h len first (found b c.args.total h c.requires (λ i. search rules) (sym e ∙ is)),
      λ f. e ∙ again b c.args.total h c.requires (front_of file b c.args.total h len first f),
    )
