use Rattle.std.proofs.Common.{ℕ, List, ◌∙◌, ap, w8}
use Rattle.std.proofs.lemmas.Simd.{swz_l}
use Rattle.aes_core.specs.Aes.{shift_rows, xor_bytes}
use Rattle.aes_core.specs.declared.lanes.TheConstants.{OWN}
use Rattle.aes_core.proofs.Mixing.{zip2_is}
use Rattle.aes_core.proofs.lanes.last_round.Goals as goal

pub returns : goal.returns
returns c =
    zip2_is (swz_l w8 16 c.last_entries-entries.result 0 OWN) c.args.key
    ∙ ap (λ (l : List ℕ). xor_bytes (shift_rows l) c.args.key) c.last_entries-entries.ensures
