-- One line after another.
use Rattle.std.proofs.Common.{◌≡◌, suc, ◌<◌, ◌≤◌, ◌+◌, ℕ, List, [], ◌∷◌, ◌++◌, length, Option, Some, None, refl, sym, ap, ◌∙◌, subst, arith, append-nil}
use Rattle.std.specs.Prelude.{IfSome, IsTrue}
use Rattle.std.specs.List.{AllByRecursion}
use Rattle.std.proofs.lemmas.List.{length-append}
use Rattle.mg_base.specs.declared.values.Digest.{Digest}
use Rattle.ro_file.specs.Files.{MeasuredFile}
use Rattle.fuse_server.specs.State.{Writables}
use Rattle.authfs_dirs.specs.Names.{Names, at_first, planted, may_plant}
use Rattle.guest_plan.specs.declared.plan.PlanLine.{PlanLine}
use Rattle.guest_names.specs.Standing.{NamedFile, kind_of, file_in, and_files, files_in, read_if, read_only, all_planted, all_standing, emptied_by, all_emptied}
use Rattle.guest_names.specs.Planted.{Planted, stood_after, with_behind, with_file, with_line, AreDifferent, AreShort, ArePlantable}
use Rattle.guest_names.proofs.Nodes.{planted_from_first, may}
use Rattle.guest_names.proofs.Files.{standing_push}

and_append : (o : Option NamedFile) (all files rest : List NamedFile) → all ≡ files ++ rest → and_files o all ≡ and_files o files ++ rest
and_append None all files rest is = is
and_append (Some f) all files rest is = ap (λ (fs : List NamedFile). f ∷ fs) is

pub in_append : (lines rest : List PlanLine) → files_in (lines ++ rest) ≡ files_in lines ++ files_in rest
in_append [] rest = refl
in_append (l ∷ lines) rest = and_append (file_in l) (files_in (lines ++ rest)) (files_in lines) (files_in rest) (in_append lines rest)

planted_push : (s : Names) (files : List NamedFile) (f : NamedFile) → planted (all_planted s files) f.name (kind_of f) ≡ all_planted s (files ++ f ∷ [])
planted_push s [] f = refl
planted_push s (g ∷ files) f = planted_push (planted s g.name (kind_of g)) files f

read_append : (g : NamedFile) (o : Option Digest) (files rest : List NamedFile) → read_if g o (files ++ rest) ≡ read_if g o files ++ rest
read_append g None files rest = refl
read_append g (Some d) files rest = refl

pub both_read : (files rest : List NamedFile) → read_only (files ++ rest) ≡ read_only files ++ read_only rest
both_read [] rest = refl
both_read (g ∷ files) rest = ap (read_if g g.digest) (both_read files rest) ∙ read_append g g.digest (read_only files) (read_only rest)

emptied_push : (standing : Writables) (files : List NamedFile) (f : NamedFile) → emptied_by (all_emptied standing files) f.number f.digest ≡ all_emptied standing (files ++ f ∷ [])
emptied_push standing [] f = refl
emptied_push standing (g ∷ files) f = emptied_push (emptied_by standing g.number g.digest) files f

-- the files as they stand behind one more
behind_is : (opened : List MeasuredFile) (files : List NamedFile) (f : NamedFile) (o : Option Digest) → f.digest ≡ o
    → with_behind opened (record (stood_after opened files) { names = planted (all_planted at_first files) f.name (kind_of f) }) f.number o ≡ stood_after opened (files ++ f ∷ [])
behind_is opened files f None e =
    let read : read_only (files ++ f ∷ []) ≡ read_only files = both_read files (f ∷ []) ∙ ap (λ (x : Option Digest). read_only files ++ read_if f x []) e ∙ append-nil (read_only files) in
    let empty : emptied_by (all_emptied [] files) f.number None ≡ all_emptied [] (files ++ f ∷ []) = ap (emptied_by (all_emptied [] files) f.number) (sym e) ∙ emptied_push [] files f in
    rw (planted_push at_first files f, empty, read) refl
behind_is opened files f (Some digest) e =
    let read : read_only (files ++ f ∷ []) ≡ read_only files ++ f ∷ [] = both_read files (f ∷ []) ∙ ap (λ (x : Option Digest). read_only files ++ read_if f x []) e in
    let empty : all_emptied [] files ≡ all_emptied [] (files ++ f ∷ []) = ap (emptied_by (all_emptied [] files) f.number) (sym e) ∙ emptied_push [] files f in
    let count : length (read_only files) + 1 ≡ length (read_only files ++ f ∷ []) = omega (arith, length-append (read_only files) (f ∷ [])) in
    rw (planted_push at_first files f, standing_push [] (read_only files) opened f, read, ← empty, count) refl

with_file_is : (opened : List MeasuredFile) (files : List NamedFile) (o : Option NamedFile) → with_file opened (stood_after opened files) o ≡ stood_after opened (files ++ and_files o [])
with_file_is opened files None = ap (stood_after opened) (sym (append-nil files))
with_file_is opened files (Some f) = behind_is opened files f f.digest refl

-- a line more
pub stepped : (opened : List MeasuredFile) (lines : List PlanLine) (l : PlanLine) (old new : Planted) → old ≡ stood_after opened (files_in lines) → new ≡ with_line opened old l
    → new ≡ stood_after opened (files_in (lines ++ l ∷ []))
stepped opened lines l old new was is =
    is ∙ ap (λ (p : Planted). with_line opened p l) was ∙ with_file_is opened (files_in lines) (file_in l) ∙ ap (stood_after opened) (sym (in_append lines (l ∷ [])))

-- ---- what the next line needs

all_at : (P : NamedFile → Type 0) (before after : List NamedFile) (f : NamedFile) → AllByRecursion P (before ++ f ∷ after) → P f
all_at P [] after f all = all.0
all_at P (g ∷ before) after f all = all_at P before after f all.1

-- a line of a plan, with those before it and those behind it
module _ (before rest : List PlanLine) (l : PlanLine) (p : ArePlantable (files_in (before ++ l ∷ rest))) where
  cut : (f : NamedFile) → file_in l ≡ Some f → files_in (before ++ l ∷ rest) ≡ files_in before ++ f ∷ files_in rest
  cut f e = in_append before (l ∷ rest) ∙ ap (λ (o : Option NamedFile). files_in before ++ and_files o (files_in rest)) e

  fewer : (f : NamedFile) → file_in l ≡ Some f → length (files_in before) + 1 ≤ length (files_in (before ++ l ∷ rest))
  fewer f e = omega (arith, ap length (cut f e), length-append (files_in before) (f ∷ files_in rest))

  pub may_next : (o : Option NamedFile) → file_in l ≡ o → (s : Names) → s ≡ all_planted at_first (files_in before) → IfSome o (λ f. IsTrue (may_plant s f.name))
  may_next None e s is = tt
  may_next (Some f) e s is =
      let few : length (files_in before) ≤ 4095 = omega (arith, fewer f e, p.few) in
      subst (λ (n : Names). IsTrue (may_plant n f.name)) (sym is)
      (may (all_planted at_first (files_in before)) f (files_in before) (files_in rest) (planted_from_first (files_in before)) (subst AreDifferent (cut f e) p.different) few)

  pub short_next : (o : Option NamedFile) → file_in l ≡ o → IfSome o (λ f. length f.name ≤ 255)
  short_next None e = tt
  short_next (Some f) e = all_at (λ g. length g.name ≤ 255) (files_in before) (files_in rest) f (subst AreShort (cut f e) p.short)

  read_cut : (f : NamedFile) → file_in l ≡ Some f → read_only (files_in (before ++ l ∷ rest)) ≡ read_only (files_in before) ++ read_if f f.digest (read_only (files_in rest))
  read_cut f e = ap read_only (cut f e) ∙ both_read (files_in before) (f ∷ files_in rest)

  within_by : (f : NamedFile) (o : Option Digest) → f.digest ≡ o → file_in l ≡ Some f → (stood most : ℕ) → stood ≡ length (read_only (files_in before)) → most ≡ length (read_only (files_in (before ++ l ∷ rest)))
      → IfSome o (λ d. stood < most)
  within_by f None d e stood most is all = tt
  within_by f (Some digest) d e stood most is all =
      let more : read_only (files_in (before ++ l ∷ rest)) ≡ read_only (files_in before) ++ f ∷ read_only (files_in rest) =
      read_cut f e ∙ ap (λ (x : Option Digest). read_only (files_in before) ++ read_if f x (read_only (files_in rest))) d in
      omega (arith, ap length more, length-append (read_only (files_in before)) (f ∷ read_only (files_in rest)), is, all)

  pub within_next : (o : Option NamedFile) → file_in l ≡ o → (stood most : ℕ) → stood ≡ length (read_only (files_in before)) → most ≡ length (read_only (files_in (before ++ l ∷ rest)))
      → IfSome o (λ f. IfSome f.digest (λ d. stood < most))
  within_next None e stood most is all = tt
  within_next (Some f) e stood most is all = within_by f f.digest refl e stood most is all
