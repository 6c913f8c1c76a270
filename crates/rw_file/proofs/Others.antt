-- What a host holds besides a file stays in each request on it.
use Rattle.std.proofs.Common.{◌≡◌, ℕ, ◌∙◌, List, [], ◌∷◌, Option, Some, None, refl, ap, sym, subst, inl, inr, take, drop}
use Rattle.std.specs.Prelude.{Bool, nat_eq}
use Rattle.std.proofs.lemmas.Bool.{ne_eqb}
use Rattle.std.proofs.lemmas.Map.{update_other}
use Rattle.host_traits.specs.declared.calls.Call.{Call}
use Rattle.host_traits.specs.declared.calls.Call.TheVariants.{FileRead, TreeRead, TreeWrite, FileWrite, Resize}
use Rattle.host_traits.specs.declared.calls.Said.{Said}
use Rattle.host_traits.specs.declared.calls.Said.TheVariants.{Bytes, Done}
use Rattle.host_traits.specs.Held.{Held, File, serve, found, with_file, tree_with, over, resized}
use Rattle.host_traits.specs.Told.{Made, Serves, ServesAll, HeldAfter}
use Rattle.host_traits.specs.Did.{Each}
use Rattle.rw_file.specs.Contents.{IsAtHost}
use Rattle.rw_file.specs.Calls.{IsForFileRead, IsForSync}
use Rattle.rw_file.specs.Faithful.{after_one, after_calls, IsSameBut, OthersStay, BytesStay}
use Rattle.rw_file.proofs.Failing.{OnFile, read_on, tree_on, held_after}

same_held : (file : ℕ) (h : Held) → IsSameBut file h h
same_held file h = record { files = λ n other. refl; disks = λ n. refl; dirs = λ n. refl }

same_on : (file : ℕ) (h k l : Held) → IsSameBut file h k → IsSameBut file k l → IsSameBut file h l
same_on file h k l a b = record { files = λ n other. b.files n other ∙ a.files n other; disks = λ n. b.disks n ∙ a.disks n; dirs = λ n. b.dirs n ∙ a.dirs n }

same_with : (file : ℕ) (h : Held) (g : File) → IsSameBut file h (with_file h file g)
same_with file h g = record {
  files = λ n other. update_other nat_eq h.file file (Some g) n (ne_eqb file n (λ e. other (sym e)));
  disks = λ n. refl;
  dirs = λ n. refl;
}

-- where a call finds the file, what is held afterwards is as said
by_found : (file : ℕ) (h k : Held) (said : Said) (o : Option File) (f : File → Said × Held) → ((g : File) → IsSameBut file h (f g).1) →
    found o (λ g. Some (f g)) ≡ Some (said, k) → IsSameBut file h k
by_found file h k said None f so e = absurd (cc)
by_found file h k said (Some g) f so e = let is : f g ≡ (said, k) = cc in subst (IsSameBut file h) (ap (λ (z : Said × Held). z.1) is) (so g)

module _ (file : ℕ) (h k : Held) (given : List ℕ) (said : Said) where
  one_read : (at want : ℕ) → serve h (FileRead file at want) given ≡ Some (said, k) → IsSameBut file h k
  unfolding serve
  one_read at want e = by_found file h k said (h.file file) (λ f. (Bytes (take want (drop at f.bytes)), h)) (λ g. same_held file h) e

  one_page : (level index : ℕ) → serve h (TreeRead file level index) given ≡ Some (said, k) → IsSameBut file h k
  unfolding serve
  one_page level index e = by_found file h k said (h.file file) (λ f. (Bytes (take 4096 (f.tree level index)), h)) (λ g. same_held file h) e

  one_put : (level index : ℕ) → serve h (TreeWrite file level index) given ≡ Some (said, k) → IsSameBut file h k
  unfolding serve
  one_put level index e = by_found file h k said (h.file file) (λ f. (Done, with_file h file (record f { tree = tree_with f.tree level index given })))
      (λ g. same_with file h (record g { tree = tree_with g.tree level index given })) e

  one_write : (at count : ℕ) → serve h (FileWrite file at count) given ≡ Some (said, k) → IsSameBut file h k
  unfolding serve
  one_write at count e = by_found file h k said (h.file file) (λ f. (Done, with_file h file (record f { bytes = over f.bytes at given }))) (λ g. same_with file h (record g { bytes = over g.bytes at given })) e

  one_size : (size : ℕ) → serve h (Resize file size) given ≡ Some (said, k) → IsSameBut file h k
  unfolding serve
  one_size size e = by_found file h k said (h.file file) (λ f. (Done, with_file h file (record f { bytes = resized f.bytes size }))) (λ g. same_with file h (record g { bytes = resized g.bytes size })) e

  one_call : (call : Call) → OnFile file call → serve h call given ≡ Some (said, k) → IsSameBut file h k
  one_call call (inl r) e = one_read r.0 r.1 (subst (λ (c : Call). serve h c given ≡ Some (said, k)) r.2 e)
  one_call call (inr (inl (level, index, inl is))) e = one_page level index (subst (λ (c : Call). serve h c given ≡ Some (said, k)) is e)
  one_call call (inr (inl (level, index, inr is))) e = one_put level index (subst (λ (c : Call). serve h c given ≡ Some (said, k)) is e)
  one_call call (inr (inr (inl w))) e = one_write w.0 w.1 (subst (λ (c : Call). serve h c given ≡ Some (said, k)) w.2 e)
  one_call call (inr (inr (inr s))) e = one_size s.0 (subst (λ (c : Call). serve h c given ≡ Some (said, k)) s.1 e)

one_made : (file : ℕ) (honest : Bool) (h k : Held) (call : Call) (given : List ℕ) (came : Option Said) → OnFile file call →
    Serves honest h call given came k → IsSameBut file h k
one_made file honest h k call given None on s = subst (IsSameBut file h) (sym s.0) (same_held file h)
one_made file honest h k call given (Some said) on s = one_call file h k given said call on s

all_made : (F : Call → Type 0) (file : ℕ) (honest : Bool) (own : List Made) (h k : Held) → ((call : Call) → F call → OnFile file call) →
    ServesAll honest h own k → Each (λ call given. F call) own → IsSameBut file h k
all_made F file honest [] h k on s each = subst (IsSameBut file h) (sym s) (same_held file h)
all_made F file honest (m ∷ own) h k on s each =
    same_on file h s.0 k (one_made file honest h s.0 m.call m.given m.came (on m.call each.0) s.1) (all_made F file honest own s.0 k on s.2 each.1)

pub others : (F : Call → Type 0) (file : ℕ) → ((call : Call) → F call → OnFile file call) → OthersStay file F
others F file on x y own h t each is =
    let after : (k : Held) × (y.held ≡ Some k) × ServesAll x.honest h own k = subst (λ z. HeldAfter x.honest z own y.held) is t.held in
    (after.0, after.1, all_made F file x.honest own h after.0 on after.2 each)

-- ---- the bytes of the file, in requests that leave them

left_all : (F : Call → Type 0) → ((c : List ℕ) (call : Call) (given : List ℕ) (came : Option Said) → F call → after_one c call given came ≡ c) →
    (c : List ℕ) (own : List Made) → Each (λ call given. F call) own → after_calls c own ≡ c
left_all F left c [] each = refl
left_all F left c (m ∷ own) each = ap (λ (b : List ℕ). after_calls b own) (left c m.call m.given m.came each.0) ∙ left_all F left c own each.1

stay : (F : Call → Type 0) (file : ℕ) → ((call : Call) → F call → OnFile file call) →
    ((c : List ℕ) (call : Call) (given : List ℕ) (came : Option Said) → F call → after_one c call given came ≡ c) → BytesStay file F
stay F file on left x y own c t each held = subst (IsAtHost y.held file) (left_all F left c own each) (held_after F file x y own c on t each held)

sync_left : (is_local : Type 0) (file size : ℕ) (c : List ℕ) (call : Call) (given : List ℕ) (came : Option Said) →
    IsForSync is_local file size call → after_one c call given came ≡ c
sync_left is_local file size c call given None t = refl
sync_left is_local file size c call given (Some said) t = elim t.call_is [
  | inl e ↦ ap (λ (k : Call). after_one c k given (Some said)) e
  | inr e ↦ ap (λ (k : Call). after_one c k given (Some said)) e
]

read_left : (is_local : Type 0) (file size at len : ℕ) (c : List ℕ) (call : Call) (given : List ℕ) (came : Option Said) →
    IsForFileRead is_local file size at len call → after_one c call given came ≡ c
read_left is_local file size at len c call given None f = refl
read_left is_local file size at len c call given (Some said) (some, inl r) = ap (λ (k : Call). after_one c k given (Some said)) r.call_is
read_left is_local file size at len c call given (Some said) (some, inr t) = sync_left is_local file size c call given (Some said) t

pub reads_stay : (is_local : Type 0) (file size at len : ℕ) → BytesStay file (IsForFileRead is_local file size at len)
reads_stay is_local file size at len =
    stay (IsForFileRead is_local file size at len) file (read_on is_local file size at len) (read_left is_local file size at len)

pub syncs_stay : (is_local : Type 0) (file size : ℕ) → BytesStay file (IsForSync is_local file size)
syncs_stay is_local file size = stay (IsForSync is_local file size) file (tree_on is_local file _ _) (sync_left is_local file size)
