-- The device that the answer of an idsig makes, where the answer begins with an idsig.
use Rattle.std.proofs.Common.{◌≡◌, ℕ, ◌+◌, ◌*◌, ◌<◌, ◌≤◌, ◌∙◌, Bool, true, false, cond, eqb, eqb-true, min, List, length, take, Result, Ok, Err, refl, ap, subst, inl, inr, arith}
use Rattle.std.proofs.lemmas.Bool.{cases_lt}
use Rattle.std.proofs.lemmas.List.{length-take, take_all, take-take}
use Rattle.sha_tree.specs.Tree.{tree_pages}
use Rattle.verity_path.specs.declared.device.Device.{Device}
use Rattle.verity_path.specs.declared.walk.Layout.TheVariants.{Parts}
use Rattle.idsig_v4.specs.declared.head.Head.{Head}
use Rattle.idsig_v4.specs.declared.head.IdsigFault.{IdsigFault}
use Rattle.idsig_v4.specs.declared.head.IdsigFault.TheVariants.{TreeLength}
use Rattle.idsig_v4.specs.Grammar.{IsIdsig}
use Rattle.idsig_v4.specs.Reading.{head_of, tree_fits}
use Rattle.idsig_v4.proofs.Spelled.{front_of, again}
use Rattle.apk_verity.specs.declared.ApkFault.{ApkFault}
use Rattle.apk_verity.specs.Opening.{Opening, count_of, ◌>>=◌, of_idsig, enough, measure_of, opened}

-- ---- an idsig in a part of a disk is read of the sectors that are asked for

front_is : (xs : List ℕ) (sectors : ℕ) → take 69632 (take (512 * sectors) xs) ≡ take (512 * min sectors 136) xs
front_is xs sectors = elim (cases_lt sectors 136) [
  | inl lt ↦ (let same : 512 * sectors ≡ 512 * min sectors 136 = omega arith in take_all 69632 (take (512 * sectors) xs) (omega (arith, length-take (512 * sectors) xs)) ∙ ap (λ (n : ℕ). take n xs) same)
  | inr le ↦ (let same : 69632 ≡ 512 * min sectors 136 = omega arith in take-take 69632 (512 * sectors) xs (omega arith) ∙ ap (λ (n : ℕ). take n xs) same)
]

-- the idsig's tree lies in the bytes that it was read from
pub tree_inside : (xs : List ℕ) (sectors : ℕ) (h : Head) → IsIdsig (take (512 * sectors) xs) h → (0 < h.tree_len) × (h.tree_at + h.tree_len ≤ length xs)
tree_inside xs sectors h is =
    let f = front_of (take (512 * sectors) xs) (take (512 * min sectors 136) xs) (length (take (512 * sectors) xs)) h refl (front_is xs sectors) is in
    let room = f.room in
    (f.fits.some, omega (arith, room, length-take (512 * sectors) xs))

pub head_read : (xs : List ℕ) (sectors : ℕ) (h : Head) → 512 * min sectors 136 ≤ length xs → IsIdsig (take (512 * sectors) xs) h
    → head_of (take (512 * min sectors 136) xs) (512 * sectors) ≡ Ok h
head_read xs sectors h le is =
    let part : List ℕ = take (512 * sectors) xs in
    let bytes : List ℕ = take (512 * min sectors 136) xs in
    let f = front_of part bytes (length part) h refl (front_is xs sectors) is in
    let room = f.room in
    again bytes (512 * sectors) h (omega (arith, length-take (512 * min sectors 136) xs, le)) (record {
      signing = f.signing;
      fits = f.fits;
      rest = f.rest;
      joined = f.joined;
      room = omega (arith, room, length-take (512 * sectors) xs);
    })

-- ---- a device that was made

then_ok : {A B : Type 0} (r : Result A ApkFault) (f : A → Result B ApkFault) (b : B) (P : Type 0) → (r >>= f) ≡ Ok b → ((a : A) → r ≡ Ok a → f a ≡ Ok b → P) → P
then_ok (Ok a) f b P e so = so a refl e
then_ok (Err x) f b P e so = absurd cc

idsig_ok : {A : Type 0} (r : Result A IdsigFault) (x : A) → of_idsig r ≡ Ok x → r ≡ Ok x
idsig_ok (Ok y) x e = let same : y ≡ x = cc in ap (λ v. Ok v) same
idsig_ok (Err f) x e = absurd cc

true_if : (t : Bool) (f : IdsigFault) (u : Unit {0}) → cond {A = Result (Unit {0}) IdsigFault} t (Ok tt) (Err f) ≡ Ok u → t ≡ true
true_if true f u e = refl
true_if false f u e = absurd cc

fits_ok : (h : Head) (blocks : ℕ) (u : Unit {0}) → tree_fits h blocks ≡ Ok u → h.tree_len ≡ 4096 * tree_pages blocks
fits_ok h blocks u e = eqb-true h.tree_len (4096 * tree_pages blocks) (true_if (eqb h.tree_len (4096 * tree_pages blocks)) (TreeLength (4096 * tree_pages blocks) h.tree_len) u e)

device_is : (a b : Device) → ◌≡◌ {A = Result Device ApkFault} (Ok a) (Ok b) → a ≡ b
device_is a b e = cc

-- what a device is made of
pub record IsMade (o : Opening) (bytes : List ℕ) (d : Device) : Type 0 where
  pub head : Head
  pub read : head_of bytes (512 * o.idsig.sectors) ≡ Ok head
  pub measure : measure_of o.apk o.measure head ≡ Ok d.measure
  pub tree : head.tree_len ≡ 4096 * tree_pages d.measure.blocks
  pub layout : d.layout ≡ Parts o.disk o.apk.first (512 * o.idsig.first + head.tree_at)

pub made : (o : Opening) (bytes : List ℕ) (d : Device) → opened o bytes ≡ Ok d → IsMade o bytes d
unfolding opened
made o bytes d e =
    then_ok (enough (512 * count_of o) (length bytes)) _ d (IsMade o bytes d) e (λ u whole e1.
    then_ok (of_idsig (head_of bytes (512 * o.idsig.sectors))) _ d (IsMade o bytes d) e1 (λ head read e2.
    then_ok (measure_of o.apk o.measure head) _ d (IsMade o bytes d) e2 (λ m is e3.
    then_ok (of_idsig (tree_fits head m.blocks)) _ d (IsMade o bytes d) e3 (λ v fits e4.
    let built : Device = record { measure = m; layout = Parts o.disk o.apk.first (512 * o.idsig.first + head.tree_at) } in
    let all : IsMade o bytes built = record {
      head = head;
      read = idsig_ok (head_of bytes (512 * o.idsig.sectors)) head read;
      measure = is;
      tree = fits_ok head m.blocks v (idsig_ok (tree_fits head m.blocks) v fits);
      layout = refl;
    } in
    subst (λ (z : Device). IsMade o bytes z) (device_is built d e4) all))))
