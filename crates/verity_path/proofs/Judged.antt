-- Right answers, in a longer work.
use Rattle.std.proofs.Common.{◌≡◌, ℕ, List, ◌++◌, length, ap, sym, ◌∙◌, append_assoc}
use Rattle.host_traits.specs.Told.{Exchanges}
use Rattle.host_traits.specs.Did.{Trace}
use Rattle.host_traits.proofs.Doing.{in_both}
use Rattle.sha_tree.specs.declared.measure.Measure.{Measure}
use Rattle.sha_tree.proofs.Sound.{derived_more}
use Rattle.verity_path.specs.States.{Place}
use Rattle.verity_path.specs.Judged.{IsRightAnswer, AreRight, AreRightBefore, judged}
use Rattle.verity_path.specs.Pieces.{IsPiece}
use Rattle.verity_path.specs.Steps.{IsFetchBlame}
use Rattle.verity_path.specs.declared.walk.Layout.{Layout}
use Rattle.verity_path.specs.declared.walk.WalkFault.{WalkFault}
use Rattle.verity_path.specs.declared.walk.WalkFault.TheVariants as fault
use Rattle.verity_path.proofs.Pieces.{piece_left, piece_right}

module _ (layout : Layout) (m : Measure) (u v : Exchanges) where
  right_more : (x y : Exchanges) → ((p : List ℕ) → IsPiece x p → IsPiece y p) → (own : Exchanges) → AreRight layout m x own → AreRight layout m y own
  right_more x y more own all call said i =
      let r = all call said i in
      record {
        level = r.level;
        index = r.index;
        bytes = r.bytes;
        call_is = r.call_is;
        said_is = r.said_is;
        whole = r.whole;
        tied = derived_more (IsPiece x) (IsPiece y) m more r.level r.index _ r.tied;
      }

  pub right_left : (own : Exchanges) → AreRight layout m u own → AreRight layout m (u ++ v) own
  right_left own all = right_more u (u ++ v) (piece_left u v) own all

  pub right_right : (own : Exchanges) → AreRight layout m v own → AreRight layout m (u ++ v) own
  right_right own all = right_more v (u ++ v) (piece_right u v) own all

  -- those of both parts
  pub right_both : AreRight layout m u u → AreRight layout m (u ++ v) v → AreRight layout m (u ++ v) (u ++ v)
  right_both first second = in_both (IsRightAnswer layout m (u ++ v)) u v (right_left u first) second

  -- all of the first part, and of the later part those before the blamed one
  pub right_later : (n : ℕ) → AreRight layout m u u → AreRightBefore layout m v n → AreRightBefore layout m (u ++ v) n
  right_later n first later = record {
    before = u ++ later.before;
    last = later.last;
    is = ap (λ (x : Exchanges). u ++ x) later.is ∙ sym (append_assoc u later.before later.last);
    count = later.count;
    right = in_both (IsRightAnswer layout m (u ++ v)) u later.before (right_left u first) (right_right later.before later.right);
  }

-- what a page that was not fetched leaves to blame
pub judged_one : (layout : Layout) (count : ℕ) (a : Place) (t : Trace) (why : WalkFault) → IsFetchBlame layout count a t why → length t.own ≡ judged why
judged_one layout count a t (fault.Mismatch x) q = ap length q.own
judged_one layout count a t (fault.Short asked got) q = ap length q.own
judged_one layout count a t (fault.Failed faults) q = ap length q.1
judged_one layout count a t fault.Memory q = ap length q.1
