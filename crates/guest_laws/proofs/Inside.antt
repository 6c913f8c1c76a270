-- A part of a disk's table lies on the disk.
use Rattle.std.proofs.Common.{◌≡◌, ℕ, ◌+◌, ◌≤◌, Bool, true, false, List, [], ◌∷◌, Option, Some, None, Result, Ok, refl, subst, inl, inr, arith}
use Rattle.std.specs.Prelude.{◌&&◌, if◌then◌else◌}
use Rattle.std.specs.List.{AllByRecursion}
use Rattle.std.specs.Str.{bytes_eq}
use Rattle.mg_base.specs.declared.values.Span.{Span}
use Rattle.gpt.specs.declared.header.Side.{Side}
use Rattle.gpt.specs.declared.values.Entry.{Entry}
use Rattle.gpt.specs.declared.values.Table.{Table}
use Rattle.gpt.specs.Entries.{is_used}
use Rattle.gpt.specs.Grammar.{IsWithin, UsedIsWithin, IsCopy, IsGpt}
use Rattle.gpt.specs.Names.{part, is_called, span_of, name_units, text_units}
use Rattle.gpt.specs.Rules.{primary, alternate}
use Rattle.guest_boot.specs.Finding.{parts_of}

-- a span ends by this sector
abbrev EndsBy : ℕ → Span → Type 0
EndsBy n s = s.first + s.sectors ≤ n

entry_ends : (from to : ℕ) (e : Entry) → IsWithin from to e → EndsBy (to + 1) (span_of e)
entry_ends from to e w = let order = w.order in let last = w.last in omega (arith, order, last)

called_used : (used named : Bool) → (used && named) ≡ true → used ≡ true
called_used true named e = refl
called_used false named e = e

chosen_ends : (b : Bool) (e : Entry) (later : Option Span) (s : Span) (n : ℕ) → (b ≡ true → EndsBy n (span_of e)) → (later ≡ Some s → EndsBy n s) → (if b then Some (span_of e) else later) ≡ Some s → EndsBy n s
chosen_ends true e later s n now rest is = let same : span_of e ≡ s = cc in subst (EndsBy n) same (now refl)
chosen_ends false e later s n now rest is = rest is

part_ends : (text : List ℕ) (es : List Entry) (from to : ℕ) (s : Span) → AllByRecursion (UsedIsWithin from to) es → part text es ≡ Some s → EndsBy (to + 1) s
unfolding part
part_ends text [] from to s all is = absurd cc
part_ends text (e ∷ es) from to s all is =
    chosen_ends (is_called text e) e (part text es) s (to + 1)
    (λ called. entry_ends from to e (all.0 (called_used (is_used e) (bytes_eq (name_units e.name) (text_units text)) called)))
    (part_ends text es from to s all.1) is

copy_ends : (side : Side) (bytes : List ℕ) (t : Table) (text : List ℕ) (s : Span) → IsCopy side bytes t → part text t.entries ≡ Some s → EndsBy side.sectors s
copy_ends side bytes t text s c is =
    let end = part_ends text t.entries c.header.first_usable c.header.last_usable s c.within is in
    let last = c.place.last in
    omega (arith, end, last)

-- a part of the table ends by the disk's end
pub part_inside : (head tail : List ℕ) (n : ℕ) (t : Table) (text : List ℕ) (s : Span) → IsGpt head tail n t → part text t.entries ≡ Some s → s.first + s.sectors ≤ n
part_inside head tail n t text s g is = elim g.copy [
  | inl c ↦ copy_ends (primary n) head t text s c is
  | inr c ↦ copy_ends (alternate n) tail t text s c.1 is
]

-- both parts that were found have their names
pub both_named : (apk idsig : List ℕ) (o p : Option Span) (a i : Span) → parts_of apk idsig o p ≡ Ok (a, i) → (o ≡ Some a) × (p ≡ Some i)
both_named apk idsig None p a i e = absurd cc
both_named apk idsig (Some x) None a i e = absurd cc
both_named apk idsig (Some x) (Some y) a i e =
    let same : (x, y) ≡ (a, i) = ok_is (x, y) (a, i) e in (subst (λ (z : Span × Span). Some x ≡ Some z.0) same refl, subst (λ (z : Span × Span). Some y ≡ Some z.1) same refl) where
      ok_is : (u v : Span × Span) → ◌≡◌ {A = Result (Span × Span) (List ℕ)} (Ok u) (Ok v) → u ≡ v
      ok_is u v e = cc
