-- Files of a list's lines that are loaded one after another.
use Rattle.std.proofs.Common.{◌≡◌, ◌<◌, ℕ, List, [], ◌∷◌, ◌++◌, length, take, drop, suc, get_or, refl, ap, sym, subst, arith, Option, Result, Ok, Err}
use Rattle.std.specs.Prelude.{IfOk}
use Rattle.std.specs.List.{AllByRecursion}
use Rattle.std.specs.declared.vec.Vec.{Vec}
use Rattle.std.specs.declared.alloc.Global.{Global}
use Rattle.host_traits.specs.Folders.{Files}
use Rattle.guest_files.proofs.Cuts.{cut_here}
use Rattle.guest_images.specs.declared.parts.PartLine.{PartLine}
use Rattle.guest_images.specs.declared.pieces.Piece.{Piece}
use Rattle.guest_images.specs.declared.status.Status.{Status}
use Rattle.guest_images.specs.Loads.{LoadFault}
use Rattle.guest_images.specs.Parts.{IsPartLine}
use Rattle.guest_images.specs.Composing.{IsPiece, piece_of}
use Rattle.guest_images.specs.Composed.{PieceLoaded, PiecesLoaded, PiecesFail}

pub pieces_then : (files : Option Files) (lines : List PartLine) (line : PartLine) (a b c : ℕ) (pieces : List Piece) (piece : Piece) → PiecesLoaded files lines a b pieces → PieceLoaded files line b c piece
    → PiecesLoaded files (lines ++ line ∷ []) a c (pieces ++ piece ∷ [])
pieces_then files [] line a b c pieces piece d l =
    (piece, c, [], subst (λ (z : ℕ). PieceLoaded files line z c piece) d.0 l, (refl, refl), ap (λ (z : List Piece). z ++ piece ∷ []) d.1)
pieces_then files (n ∷ ns) line a b c pieces piece d l =
    (d.0, d.1, d.2 ++ piece ∷ [], d.3, pieces_then files ns line d.1 b c d.2 piece d.4 l, ap (λ (z : List Piece). z ++ piece ∷ []) d.5)

pub pieces_fail : (files now_files : Option Files) (lines : List PartLine) (i : ℕ) (line : PartLine) (before now : ℕ) (pieces : List Piece) (status : Status)
    → now_files ≡ files → i < length lines → line ≡ get_or lines i line → PiecesLoaded files (take i lines) before now pieces → LoadFault now_files line.file now status → PiecesFail files lines before status
pieces_fail files now_files lines i line before now pieces status same low is loaded fails = record {
  front = take i lines;
  line = line;
  rest = drop (suc i) lines;
  cut = cut_here lines i line low is;
  now = now;
  pieces = pieces;
  loaded = loaded;
  fails = subst (λ (z : Option Files). LoadFault z line.file now status) same fails;
}

piece_is : (files : Option Files) (line : PartLine) (a b : ℕ) (piece : Piece) → IsPartLine line → PieceLoaded files line a b piece → IsPiece piece
piece_is files line a b piece is l =
    let made : IsPiece (piece_of line (length l.content)) = record { short = omega (arith, is.short); file = is.file; small = l.loaded.few } in
    subst IsPiece (sym l.is) made

pieces_are : (files : Option Files) (lines : List PartLine) (a b : ℕ) (pieces : List Piece) → AllByRecursion IsPartLine lines → PiecesLoaded files lines a b pieces → AllByRecursion IsPiece pieces
pieces_are files [] a b pieces each l = subst (AllByRecursion IsPiece) (sym l.1) tt
pieces_are files (line ∷ lines) a b pieces each l =
    let more : AllByRecursion IsPiece (l.0 ∷ l.2) = (piece_is files line a l.1 l.0 each.0 l.3, pieces_are files lines l.1 b l.2 each.1 l.4) in
    subst (AllByRecursion IsPiece) (sym l.5) more

pub pieces_each : (files : Option Files) (lines : List PartLine) (a b : ℕ) (r : Result (Vec Piece Global) Status) → AllByRecursion IsPartLine lines → IfOk r (λ v. PiecesLoaded files lines a b v.items) → IfOk r (λ v. AllByRecursion IsPiece v.items)
pieces_each files lines a b (Ok v) each l = pieces_are files lines a b v.items each l
pieces_each files lines a b (Err e) each l = tt
