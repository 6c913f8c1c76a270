-- Files that are stored one after another.
use Rattle.std.proofs.Common.{◌≡◌, ℕ, List, [], ◌∷◌, ◌++◌, refl, ap, sym, subst, ◌∙◌, append_assoc, inl, inr, Option}
use Rattle.host_traits.specs.Folders.{Files}
use Rattle.host_traits.specs.Held.{Held}
use Rattle.guest_plan.specs.declared.store.StoreLine.{StoreLine}
use Rattle.guest_files.specs.declared.load.Refusal.{Refusal}
use Rattle.guest_files.specs.declared.load.Refusal.TheVariants.{File, Line, TooMuch, Memory}
use Rattle.guest_files.specs.Keeping.{Parcel, AreStored, StopsAt, StoringStops, kept_by, kept_of}

pub stored_both : (old mid new : Option Files) (xs ys : List Parcel) → AreStored old xs mid → AreStored mid ys new → AreStored old (xs ++ ys) new
stored_both old mid new [] ys first then = subst (λ (z : Option Files). AreStored z ys new) first then
stored_both old mid new (x ∷ xs) ys first then = (first.0, first.1, stored_both first.0 mid new xs ys first.2 then)

stops_before : (mid new : Option Files) (xs ys : List Parcel) (r : Refusal) → StopsAt mid xs new r → StopsAt mid (xs ++ ys) new r
stops_before mid new [] [] r s = s
stops_before mid new [] (y ∷ ys) Memory s = inl s
stops_before mid new [] (y ∷ ys) (File name) s = absurd s
stops_before mid new [] (y ∷ ys) (Line line kind) s = absurd s
stops_before mid new [] (y ∷ ys) TooMuch s = absurd s
stops_before mid new (x ∷ xs) ys (File name) s = s
stops_before mid new (x ∷ xs) ys Memory s = s
stops_before mid new (x ∷ xs) ys (Line line kind) s = absurd s
stops_before mid new (x ∷ xs) ys TooMuch s = absurd s

-- some files were stored, and then storing stopped among the next, before others
pub stops_within : (old mid new : Option Files) (xs ys zs : List Parcel) (r : Refusal) → AreStored old xs mid → StoringStops mid ys new r → StoringStops old (xs ++ (ys ++ zs)) new r
stops_within old mid new xs ys zs r first s = record {
  done = xs ++ s.done;
  rest = s.rest ++ zs;
  cut = ap (λ (z : List Parcel). xs ++ (z ++ zs)) s.cut ∙ ap (λ (z : List Parcel). xs ++ z) (append_assoc s.done s.rest zs) ∙ sym (append_assoc xs s.done (s.rest ++ zs));
  mid = s.mid;
  stored = stored_both old mid s.mid xs s.done first s.stored;
  stops = stops_before s.mid new s.rest zs r s.stops;
}

pub kept_both : (h : Held) (xs ys : List StoreLine) → kept_of h (xs ++ ys) ≡ kept_of h xs ++ kept_of h ys
kept_both h [] ys = refl
kept_both h (x ∷ xs) ys = ap (λ (z : List Parcel). kept_by h x ++ z) (kept_both h xs ys) ∙ sym (append_assoc (kept_by h x) (kept_of h xs) (kept_of h ys))
