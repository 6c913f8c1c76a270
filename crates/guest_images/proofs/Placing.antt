-- Components that are put one behind the other.
use Rattle.std.proofs.Common.{◌≡◌, ◌<◌, ◌≤◌, ◌+◌, ◌*◌, ℕ, List, [], ◌∷◌, ◌++◌, length, map, drop, get_or, refl, sym, ap, ◌∙◌, append_assoc, append-nil}
use Rattle.std.proofs.lemmas.List.{map-append, drop_all}
use Rattle.composite_spec.specs.declared.kinds.Component.{Component}
use Rattle.composite_spec.specs.Said.{Placed, placed}
use Rattle.guest_images.specs.declared.pieces.Piece.{Piece}
use Rattle.guest_images.specs.Composing.{placed_from, sectors_of}
use Rattle.guest_images.proofs.Cuts.{drop_here}

abbrev pub made : ℕ → Piece → Placed
made first p = record { path = p.file; offset = 512 * first; write = p.write }

placed_cons : (first : ℕ) (p : Piece) (pieces : List Piece) → placed_from first (p ∷ pieces) ≡ made first p ∷ placed_from (first + sectors_of p.size) pieces
unfolding placed_from
placed_cons first p pieces = refl

placed_none : (first : ℕ) → placed_from first [] ≡ []
unfolding placed_from
placed_none first = refl

pub placed_more : (before later : List Component) (x : Component) (all : List Placed) (first i sectors : ℕ) (pieces : List Piece) (p : Piece) → i < length pieces → p ≡ get_or pieces i p
    → later ≡ before ++ x ∷ [] → placed x ≡ made first p → sectors ≡ sectors_of p.size
    → map placed before ++ placed_from first (drop i pieces) ≡ all → map placed later ++ placed_from (first + sectors) (drop (i + 1) pieces) ≡ all
placed_more before later x all first i sectors pieces p low is added said many e =
    let rest : List Placed = placed_from (first + sectors_of p.size) (drop (i + 1) pieces) in
    let front : map placed later ≡ map placed before ++ made first p ∷ [] = ap (map placed) added ∙ map-append placed before (x ∷ []) ∙ ap (λ (z : Placed). map placed before ++ z ∷ []) said in
    let left : placed_from first (drop i pieces) ≡ made first p ∷ rest = ap (placed_from first) (drop_here pieces i p low is) ∙ placed_cons first p (drop (i + 1) pieces) in
    rw (many, front) (append_assoc (map placed before) (made first p ∷ []) rest ∙ ap (λ (z : List Placed). map placed before ++ z) (sym left) ∙ e)

pub placed_done : (before : List Component) (all : List Placed) (first i : ℕ) (pieces : List Piece) → length pieces ≤ i
    → map placed before ++ placed_from first (drop i pieces) ≡ all → map placed before ≡ all
placed_done before all first i pieces few e =
    let none : placed_from first (drop i pieces) ≡ [] = ap (placed_from first) (drop_all i pieces few) ∙ placed_none first in
    sym (append-nil (map placed before)) ∙ ap (λ (z : List Placed). map placed before ++ z) (sym none) ∙ e
