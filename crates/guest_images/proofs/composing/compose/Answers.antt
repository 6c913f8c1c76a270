use Rattle.std.proofs.Common.{◌≡◌, ◌∙◌, sym, subst}
use Rattle.composite_spec.specs.Said.{Composite, IsComposite, composite}
use Rattle.composite_spec.specs.Spelling.{IsFile}
use Rattle.composite_spec.specs.Writing.{file_bytes}
use Rattle.guest_images.specs.Composing.{composite_of}
use Rattle.guest_images.proofs.Fits.{fit_of}
use Rattle.guest_images.proofs.Described.{described, spec_same}
use Rattle.guest_images.proofs.composing.compose.Goals as goal

pub write_spec-requires : goal.write_spec-requires
write_spec-requires c =
    let same : composite c.in_ok-spec.spec ≡ composite_of c.args.out.now c.args.pieces.now =
    spec_same c.args.out.now c.as_str.result.now c.as_str-2.result.now c.args.pieces.now c.in_ok-table.table.sectors _ c.in_ok-spec.ensures
    (c.as_str.ensures.value ∙ c.in_ok-head_name.ensures) (c.as_str-2.ensures.value ∙ c.in_ok-tail_name.ensures) c.in_ok-table.ensures.sectors in
    subst IsComposite (sym same) (described c.args.out.now c.args.pieces.now c.requires.out c.utf8.out c.requires.each (fit_of c.args.pieces.now c.requires.fit))

pub returns-clause-described : goal.returns-clause-described
returns-clause-described c =
    let same : composite c.in_ok-spec.spec ≡ composite_of c.args.out.now c.args.pieces.now =
    spec_same c.args.out.now c.as_str.result.now c.as_str-2.result.now c.args.pieces.now c.in_ok-table.table.sectors _ c.in_ok-spec.ensures
    (c.as_str.ensures.value ∙ c.in_ok-head_name.ensures) (c.as_str-2.ensures.value ∙ c.in_ok-tail_name.ensures) c.in_ok-table.ensures.sectors in
    subst (λ (z : Composite). IsFile (file_bytes z) z) same c.write_spec.ensures.spelled
