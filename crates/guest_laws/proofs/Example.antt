-- A host that a store list makes, and a plan that it fits: a content of two blocks, as a blob and as a file by its digest. Its
-- two files at the host are the store's by `verity` lines.
use Rattle.std.proofs.Common.{◌≡◌, ℕ, zero, suc, ◌<◌, ◌≤◌, true, List, [], ◌∷◌, length, Option, Some, None, refl, subst, sym, arith}
use Rattle.std.specs.Prelude.{slice_get, replicate, ◌==◌, if◌then◌else◌}
use Rattle.std.proofs.lemmas.Bool.Decides.{nat_tests}
use Rattle.std.proofs.lemmas.List.{length-replicate}
use Rattle.host_traits.specs.Held.{Held, with_file}
use Rattle.host_mem.specs.Made.{nothing}
use Rattle.mem_files.specs.FsVerity.{verity_file, is_tree_page}
use Rattle.sha_tree.specs.declared.measure.Measure.{Measure}
use Rattle.sha_tree.specs.Tree.{block_count, pages_at, top, page, root}
use Rattle.mg_base.specs.declared.values.Digest.{Digest}
use Rattle.sha2.specs.Sha256.{sha256}
use Rattle.verity_descriptor.specs.Spelling.{descriptor_bytes}
use Rattle.ro_file.specs.Contents.{descriptor_of}
use Rattle.guest_plan.specs.Plans.{Known}
use Rattle.guest_plan.specs.declared.plan.PlanLine.{PlanLine}
use Rattle.guest_plan.specs.declared.plan.PlanLine.TheVariants as line
use Rattle.guest_rules.specs.Machine.{World, Salted}
use Rattle.guest_laws.specs.Fitting.{Fits, FitsBlob, FitsFile, FitsItem, item_line}
use Rattle.guest_laws.proofs.Lines.{same_line}

is_page : (count level i : ℕ) → 0 < level → level ≤ top count → i < pages_at count level → is_tree_page count level i ≡ true
is_page count level i some low within = grind (arith, nat_tests)

module _ (content : List ℕ) (len : length content ≡ 8192) where
  abbrev pub measure : Measure
  measure = record { blocks = 2; salt = []; root = record { 0 = root content [] } }

  abbrev pub held : Held
  held = with_file (with_file nothing 1 (verity_file content [])) 2 (verity_file content [])

  abbrev pub digest : Digest
  digest = record { 0 = sha256 (descriptor_bytes (descriptor_of content [])) }

  abbrev pub plan : List PlanLine
  plan = line.Blob 1 measure ∷ line.File (97 ∷ []) 2 digest ∷ []

  abbrev pub lines : Known
  lines = record { secret = None; salt = None; lines = plan; numbers = 2 ∷ 3 ∷ [] }

  abbrev pub known : Salted
  known = record { content = content; salt = [] }

  abbrev pub world : World
  world = record { item = λ k. if k == 0 then Some content else None; file = λ n. if n == 2 then Some known else None; sealed = None }

  tree_in : (level i : ℕ) → 0 < level → level ≤ top (block_count (length content)) → i < pages_at (block_count (length content)) level
      → (verity_file content []).tree level i ≡ page content [] level i
  unfolding verity_file
  tree_in level i some low within =
      let test : is_tree_page (block_count (length content)) level i ≡ true = is_page (block_count (length content)) level i some low within in
      rw test refl

  tree_held : (level i : ℕ) → 0 < level → level ≤ top 2 → i < pages_at 2 level → (verity_file content []).tree level i ≡ page content [] level i
  tree_held level i some low within =
      let count : block_count (length content) ≡ 2 = omega (arith, len) in
      tree_in level i some (subst (λ (n : ℕ). level ≤ top n) (sym count) low) (subst (λ (n : ℕ). i < pages_at n level) (sym count) within)

  bytes_held : (verity_file content []).bytes ≡ content
  unfolding verity_file
  bytes_held = refl

  blob_held : FitsBlob held (Some content) 1 measure
  blob_held = record {
    bytes = content;
    content_is = refl;
    measured = record { size = omega (arith, len); root = refl };
    holds = record { file = verity_file content []; there = refl; size_is = omega (arith, len); bytes = bytes_held; tree = tree_held };
  }

  item_held : (k : ℕ) (l : PlanLine) → item_line plan k ≡ Some l → FitsItem held (world.item k) l
  item_held zero l at = subst (FitsItem held (Some content)) (same_line (line.Blob 1 measure) l at) blob_held
  item_held (suc k) l at = absurd cc

  descriptor_held : (verity_file content []).descriptor ≡ descriptor_bytes (descriptor_of content [])
  unfolding verity_file
  descriptor_held = refl

  digest_held : FitsFile held (Some known) 2 digest
  digest_held = record {
    known = known;
    content_is = refl;
    holds = record {
      holds = record { file = verity_file content []; there = refl; size_is = refl; bytes = bytes_held; tree = tree_in };
      descriptor = descriptor_held;
      measured = record { size = omega (arith, len); digest_is = refl };
      short = omega arith;
      few = omega (arith, len);
    };
  }

  no_salt : (salt : List ℕ) → ◌≡◌ {A = Option (List ℕ)} None (Some salt) → ⊥
  no_salt salt e = cc

  abbrev IsHeldFile : PlanLine → Type 0
  IsHeldFile (line.File name file d) = FitsFile held (world.file file) file d
  IsHeldFile other = Unit {0}

  file_held : (k : ℕ) (name : List ℕ) (file : ℕ) (d : Digest) → slice_get plan k ≡ Some (line.File name file d) → FitsFile held (world.file file) file d
  file_held zero name file d at = let same = same_line (line.Blob 1 measure) (line.File name file d) at in absurd cc
  file_held (suc zero) name file d at = subst IsHeldFile (same_line (line.File (97 ∷ []) 2 digest) (line.File name file d) at) digest_held
  file_held (suc (suc k)) name file d at = absurd cc

  -- the host of those files holds what the plan needs
  pub blob_fits : Fits lines world held
  blob_fits = record {
    instance = λ k disk part salt at is. absurd (no_salt salt is);
    items = item_held;
    files = file_held;
  }

-- such a content: 8,192 sevens
abbrev sevens : List ℕ
sevens = replicate 8192 7

pub sevens_fit : Fits (lines sevens (length-replicate {A = ℕ} 8192 7)) (world sevens (length-replicate {A = ℕ} 8192 7)) (held sevens (length-replicate {A = ℕ} 8192 7))
sevens_fit = blob_fits sevens (length-replicate {A = ℕ} 8192 7)
