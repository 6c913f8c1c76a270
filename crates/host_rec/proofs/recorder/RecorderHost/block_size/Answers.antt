use Rattle.host_rec.proofs.Recording.{recorded}
use Rattle.host_rec.proofs.recorder.RecorderHost.block_size.Goals as goal

pub returns-clause-asked : goal.returns-clause-asked
returns-clause-asked g c =
    let noted = rw c.reserve.ensures.kept at c.note_number.ensures in
    rw (← c.self.view_is) (recorded _ _ _ _ _ _ c.self.inside.records.kept _ c.reserve.ensures.even c.block_size-answer.ensures.asked noted)
