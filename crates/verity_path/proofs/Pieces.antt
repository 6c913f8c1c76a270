-- A piece of a part of what was heard is one of the whole.
use Rattle.std.proofs.Common.{List, ℕ, ◌++◌}
use Rattle.host_traits.specs.Told.{Exchanges}
use Rattle.host_traits.proofs.Doing.{in_left, in_right}
use Rattle.verity_path.specs.Pieces.{IsPiece}

pub piece_left : (x y : Exchanges) (p : List ℕ) → IsPiece x p → IsPiece (x ++ y) p
piece_left x y p i = record { call = i.call; said = i.said; was_heard = in_left i.call i.said x y i.was_heard; piece = i.piece }

pub piece_right : (x y : Exchanges) (p : List ℕ) → IsPiece y p → IsPiece (x ++ y) p
piece_right x y p i = record { call = i.call; said = i.said; was_heard = in_right i.call i.said x y i.was_heard; piece = i.piece }
