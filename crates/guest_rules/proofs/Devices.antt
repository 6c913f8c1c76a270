-- A content that is held: the answer to the call for a page is as long as asked, and holds the content's page.
use Rattle.std.proofs.Common.{◌≡◌, ℕ, [], ◌-◌, ◌*◌, ◌+◌, ◌/◌, ◌%◌, ◌<◌, ◌≤◌, min, List, length, sym, ◌∙◌, Some, true, false}
use Rattle.std.specs.Prelude.{◌==◌, if◌then◌else◌}
use Rattle.host_traits.specs.declared.calls.Call.TheVariants.{BlockRead, FileRead, TreeRead}
use Rattle.host_traits.specs.declared.calls.Said.{Said}
use Rattle.host_traits.specs.declared.calls.Said.TheVariants.{Bytes}
use Rattle.host_traits.specs.Held.{Held, serve}
use Rattle.sha_tree.specs.declared.measure.Measure.{Measure}
use Rattle.sha_tree.specs.Measured.{HasTree}
use Rattle.sha_tree.specs.Tree.{page, pages_at, top}
use Rattle.verity_path.specs.Calls.{call_for, asked_for, piece_for, tree_byte}
use Rattle.verity_path.specs.Holding.{HoldsAt}
use Rattle.verity_path.specs.declared.walk.Layout.{Layout}
use Rattle.verity_path.specs.declared.walk.Layout.TheVariants.{File as OnFile, Parts as InParts}
use Rattle.verity_path.proofs.Pages.{HasPage as WalkedPage, page_held as page_walked}
use Rattle.guest_rules.proofs.Holding.{IsReading, of_blocks, of_file, of_tree, pair_is}

-- the call for a page is a read
pub page_reads : (layout : Layout) (count level i : ℕ) → IsReading (call_for layout count level i)
page_reads (OnFile file size) count level i =
    elim (level == 0) as (λ v. IsReading (if v then FileRead file (4096 * i) (min (size - 4096 * i) 4096) else TreeRead file level i))
    [ true ↦ of_file file (4096 * i) (min (size - 4096 * i) 4096) | false ↦ of_tree file level i ]
page_reads (InParts disk first tree) count level i =
    let at : ℕ = tree_byte tree count level i in
    elim (level == 0) as (λ v. IsReading (if v then BlockRead disk (first + 8 * i) 8 else BlockRead disk (at / 512) (if at % 512 == 0 then 8 else 9)))
    [ true ↦ of_blocks disk (first + 8 * i) 8 | false ↦ of_blocks disk (at / 512) (if at % 512 == 0 then 8 else 9) ]

-- an answer as long as asked, which holds the content's page
pub record HasPage (layout : Layout) (m : Measure) (content : List ℕ) (level i : ℕ) (said : Said) : Type 0 where
  pub bytes : List ℕ
  pub said_is : said ≡ Bytes bytes
  pub len : length bytes ≡ asked_for layout m.blocks level i
  pub piece : piece_for layout m.blocks level i bytes ≡ page content m.salt level i

-- the page at its place, as the walk has it
module _ (h : Held) (m : Measure) (content : List ℕ) (tree : HasTree m content) (limit : m.blocks ≤ 1048576) (layout : Layout) (level i : ℕ)
    (holds : HoldsAt h layout m content) (low : level ≤ top m.blocks) (within : i < pages_at m.blocks level) where
  walked : WalkedPage h layout m content level i
  walked = page_walked h m content tree.blocks limit layout level i holds low within

  -- the call for it can be served
  pub page_serves : (said : Said) × (serve h (call_for layout m.blocks level i) [] ≡ Some (said, h))
  page_serves = (Bytes walked.bytes, walked.served [])

  -- and is answered by it
  pub page_held : (given : List ℕ) (said : Said) → serve h (call_for layout m.blocks level i) given ≡ Some (said, h) → HasPage layout m content level i said
  page_held given said e = record {
    bytes = walked.bytes;
    said_is = sym (pair_is (Bytes walked.bytes, h) (said, h) (sym (walked.served given) ∙ e)).0;
    len = walked.len;
    piece = walked.piece;
  }
