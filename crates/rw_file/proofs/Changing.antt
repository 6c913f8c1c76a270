-- Which calls change a file.
use Rattle.std.proofs.Common.{◌≡◌, ℕ, ◌+◌, ◌/◌, ◌∙◌, List, [], ◌∷◌, ◌++◌, map, Option, Some, None, refl, ap, sym, arith, append_assoc, append-nil}
use Rattle.std.specs.List.{range_with_len}
use Rattle.host_traits.specs.declared.calls.Call.{Call}
use Rattle.host_traits.specs.declared.calls.Call.TheVariants.{BlockSize, BlockRead, BlockWrite, BlockSync, FileRead, TreeRead, Descriptor, FileWrite, TreeWrite, Resize, Create, Mkdir, Delete}
use Rattle.host_traits.specs.declared.calls.Said.{Said}
use Rattle.host_traits.specs.Told.{Told, Made, Exchanges, heard_of, exchange_of}
use Rattle.host_traits.specs.Did.{Trace}
use Rattle.verity_path.specs.Range.{touched}
use Rattle.leaf_tree.specs.Worked.{Worked, puts_of, one_put}
use Rattle.rw_file.specs.Calls.{change_in, changes_in, block_write, block_writes}

pub changes_in-append : (x y : Exchanges) → changes_in (x ++ y) ≡ changes_in x ++ changes_in y
changes_in-append [] y = refl
changes_in-append (e ∷ x) y =
    ap (λ (l : List Call). change_in e.0 ++ l) (changes_in-append x y) ∙ sym (append_assoc (change_in e.0) (changes_in x) (changes_in y))

-- no changes, and then these
pub none_then : (x y : Exchanges) (l : List Call) → changes_in x ≡ [] → changes_in y ≡ l → changes_in (x ++ y) ≡ l
none_then x y l none is = changes_in-append x y ∙ ap (λ (k : List Call). k ++ changes_in y) none ∙ is

-- these, and then none
pub then_none : (x y : Exchanges) (l : List Call) → changes_in x ≡ l → changes_in y ≡ [] → changes_in (x ++ y) ≡ l
then_none x y l is none = changes_in-append x y ∙ ap (λ (k : List Call). k ++ changes_in y) is ∙ ap (λ (k : List Call). l ++ k) none ∙ append-nil l

-- these, and then one more
pub then_more : (x y : Exchanges) (k l : List Call) → changes_in x ≡ k → changes_in y ≡ l → changes_in (x ++ y) ≡ k ++ l
then_more x y k l is more = changes_in-append x y ∙ ap (λ (z : List Call). z ++ changes_in y) is ∙ ap (λ (z : List Call). k ++ z) more

no_change : (call : Call) → one_put call ≡ 0 → change_in call ≡ []
no_change (FileWrite file at count) e = absurd (omega (arith, e))
no_change (Resize file size) e = absurd (omega (arith, e))
no_change (BlockSize disk) e = refl
no_change (BlockRead disk sector count) e = refl
no_change (BlockWrite disk sector count) e = refl
no_change (BlockSync disk) e = refl
no_change (FileRead file at want) e = refl
no_change (TreeRead file level index) e = refl
no_change (Descriptor file) e = refl
no_change (TreeWrite file level index) e = refl
no_change (Create dir file) e = refl
no_change (Mkdir dir file) e = refl
no_change (Delete dir) e = refl

one_none : (call : Call) (came : Option Said) → one_put call ≡ 0 → changes_in (exchange_of call came) ≡ []
one_none call None e = refl
one_none call (Some said) e = ap (λ (l : List Call). l ++ []) (no_change call e)

none_put : (own : List Made) → puts_of own ≡ 0 → changes_in (heard_of own) ≡ []
none_put [] e = refl
none_put (m ∷ own) e =
    none_then (exchange_of m.call m.came) (heard_of own) [] (one_none m.call m.came (omega (arith, e))) (none_put own (omega (arith, e)))

-- work that makes no call on a file's bytes changes none
pub worked_changes : (H : Call → List ℕ → Type 0) (F : Call → Type 0) (m : ℕ) (a b : Told) (P : Trace → Type 0) → Worked H 0 F m a b P →
    Worked H 0 F m a b (λ t. P t × (changes_in t.own ≡ []))
worked_changes H F m a b P d = record {
  own = d.own;
  talked = d.talked;
  calls = d.calls;
  hands = d.hands;
  few_puts = d.few_puts;
  few = d.few;
  stops = d.stops;
  outcome = (d.outcome, none_put d.own (omega (arith, d.few_puts)));
}

pub touched_none : (at : ℕ) → touched at (at + 0) ≡ 0
touched_none at = grind arith

-- of no bytes there are no writes
pub writes_none : (file at len : ℕ) → changes_in [] ≡ block_writes file at len 0
writes_none file at len = sym (ap (λ (k : ℕ). map (block_write file at (at + len)) (range_with_len (at / 4096) k)) (touched_none at))
