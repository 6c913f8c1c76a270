-- The bytes of a salt in its 32 bytes of room.
use Rattle.std.specs.Prelude.{◌≡◌, ℕ, ◌-◌, ◌≤◌, List, length, take, drop, ◌++◌, replicate, refl}
use Rattle.std.proofs.Common.{◌∙◌, ap, arith, length-take, length-append}
use Rattle.std.proofs.lemmas.List.{drop-replicate, length-replicate}
use Rattle.std.proofs.Math.Seq.{take-append_seam}
use Rattle.mg_base.specs.declared.salt.Salt.TheInside.{Inside}

-- at most 32 bytes are in use, and the others are zeros
pub record IsSaltOf (bytes : List ℕ) (len : ℕ) : Type 0 where
  pub few : len ≤ 32
  pub whole : length bytes ≡ 32
  pub room : take len bytes ++ replicate (32 - len) 0 ≡ bytes

abbrev pub salt_bytes : Inside → List ℕ
salt_bytes s = take s.len s.bytes

abbrev pub IsSalt : Inside → Type 0
IsSalt s = IsSaltOf s.bytes s.len

abbrev pub salt_fields : List ℕ → Inside
salt_fields b = record { bytes = b ++ replicate (32 - length b) 0; len = length b }

pub length-salt : (bytes : List ℕ) (len : ℕ) → IsSaltOf bytes len → length (take len bytes) ≡ len
length-salt bytes len h = let w = h.whole in let f = h.few in omega (arith, length-take len bytes)

pub salt_fields-salt_bytes : (a : Inside) → IsSalt a → salt_fields (salt_bytes a) ≡ a
salt_fields-salt_bytes a h =
    ap (λ (n : ℕ). let r : Inside = record { bytes = take a.len a.bytes ++ replicate (32 - n) 0; len = n } in r) (length-salt a.bytes a.len h)
    ∙ ap (λ (b : List ℕ). let r : Inside = record { bytes = b; len = a.len } in r) h.room

-- bytes at the front of room for 32
pub IsSaltOf-padded : (b : List ℕ) → length b ≤ 32 → IsSaltOf (b ++ drop (length b) (replicate 32 0)) (length b)
IsSaltOf-padded b h = record {
  few = h;
  whole = rw drop-replicate (omega (arith, length-append b (replicate (32 - length b) 0), length-replicate {A = ℕ} (32 - length b) 0));
  room = let zeros : List ℕ = replicate 32 0 in rw (take-append_seam b (drop (length b) zeros), drop-replicate {X = ℕ} (length b) 32 0) refl;
}

pub take-padded : (b z : List ℕ) → take (length b) (b ++ z) ≡ b
take-padded b z = take-append_seam b z
