use Rattle.std.proofs.Common.{◌≡◌, List, ℕ, ◌∙◌, ◌+◌, ◌++◌, take, drop, length, sym, ap, arith, subst, Ok, Err}
use Rattle.std.proofs.lemmas.List.{take_at}
use Rattle.host_traits.specs.Did.{DidBy}
use Rattle.instance_image.specs.declared.values.Part.{Part}
use Rattle.instance_image.specs.Records.{Kept, fits_in, keep_size, IsPartAt, IsLaid}
use Rattle.instance_image.specs.Access.{IsPutting, PutOutcome}
use Rattle.instance_image.specs.declared.faults.PutFault.TheVariants as puts
use Rattle.instance_image.proofs.Partitions.{found_is}
use Rattle.instance_image.proofs.Laying.{found_lies, sized_laid}
use Rattle.instance_image.proofs.Accesses.{put_refused, put_roomless, fits_found, put_lies}
use Rattle.instance_image.proofs.values.Image.write_record.Goals as goal

pub returns-in-Err-clause-did : goal.returns-in-Err-clause-did
returns-in-Err-clause-did g c =
    let k : Kept = record { disk = c.self.inside.disk; first = c.self.inside.first; salt = c.self.inside.salt; parts = c.self.inside.parts.items } in
    let is : Err c.in-Err.fault ≡ fits_in k.parts c.args.uuid.now.0 (length c.args.text.now) = rw c.as_slice.ensures.value at c.in-Err.ensures in
    subst (λ (x : Kept). DidBy (IsPutting x c.args.secret.now c.args.uuid.now.0 c.args.nonce.now c.args.text.now) 1 (g.H.Host.told c.args.host.now) (g.H.Host.told c.args.host.now)
    (PutOutcome x c.args.uuid.now.0 c.args.text.now x (Err c.in-Err.fault))) c.self.view_is
    (put_refused k c.args.secret.now c.args.uuid.now.0 c.args.nonce.now c.args.text.now c.in-Err.fault _ is)

pub returns-in-Err-record_of-clause-did : goal.returns-in-Err-record_of-clause-did
returns-in-Err-record_of-clause-did g c =
    let k : Kept = record { disk = c.self.inside.disk; first = c.self.inside.first; salt = c.self.inside.salt; parts = c.self.inside.parts.items } in
    let is : Ok c.in-Ok.part ≡ fits_in k.parts c.args.uuid.now.0 (length c.args.text.now) = rw c.as_slice.ensures.value at c.in-Ok.ensures in
    subst (λ (x : Kept). DidBy (IsPutting x c.args.secret.now c.args.uuid.now.0 c.args.nonce.now c.args.text.now) 1 (g.H.Host.told c.args.host.now) (g.H.Host.told c.args.host.now)
    (PutOutcome x c.args.uuid.now.0 c.args.text.now x (Err puts.Memory))) c.self.view_is
    (put_roomless k c.args.secret.now c.args.uuid.now.0 c.args.nonce.now c.args.text.now c.in-Ok.part _ is)

pub overflow_add-self-inside : goal.overflow_add-self-inside
overflow_add-self-inside g c =
    let is : Ok c.in-Ok.part ≡ fits_in c.self.inside.parts.items c.args.uuid.now.0 (length c.args.text.now) = rw c.as_slice.ensures.value at c.in-Ok.ensures in
    let found = fits_found c.self.inside.parts.items c.args.uuid.now.0 (length c.args.text.now) c.in-Ok.part (sym is) in
    let lies : IsPartAt c.self.inside.first c.in-Ok.part = found_is (IsPartAt c.self.inside.first) c.self.inside.parts.items c.args.uuid.now.0 c.in-Ok.part c.self.invariant.kept found.0 in
    omega (arith, lies.end)

pub invariant_of-self : goal.invariant_of-self
invariant_of-self g c =
    let parts : List Part = c.self.inside.parts.items in
    let uuid : List ℕ = c.args.uuid.now.0 in
    let n : ℕ = length c.args.text.now in
    let k : Kept = record { disk = c.self.inside.disk; first = c.self.inside.first; salt = c.self.inside.salt; parts = parts } in
    let is : Ok c.in-Ok.part ≡ fits_in parts uuid n = rw c.as_slice.ensures.value at c.in-Ok.ensures in
    let found = fits_found parts uuid n c.in-Ok.part (sym is) in
    let lies : IsPartAt c.self.inside.first c.in-Ok.part = found_lies k uuid c.in-Ok.part c.self.invariant found.0 in
    let laid : IsLaid (record k { parts = keep_size parts uuid (28 + n) }) = sized_laid k uuid (28 + n) c.in-Ok.part c.self.invariant found.0 (put_lies c.self.inside.first n c.in-Ok.part found.1 lies) in
    let now : c.keep_size.new.parts ≡ keep_size parts uuid (28 + n) = c.keep_size.ensures ∙ ap (λ (x : List Part). keep_size x uuid (28 + n)) c.as_mut_slice.ensures.value in
    let long : length c.keep_size.new.parts ≡ c.self.inside.parts.len = omega (arith, c.keep_size.auto.parts, c.as_mut_slice.ensures.len) in
    let same : take c.self.inside.parts.len (c.keep_size.new.parts ++ drop (length c.keep_size.new.parts) parts) ≡ c.keep_size.new.parts = take_at c.keep_size.new.parts _ c.self.inside.parts.len long in
    subst (λ (x : List Part). IsLaid (record k { parts = x })) (sym (same ∙ now)) laid
