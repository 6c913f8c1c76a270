use Rattle.std.proofs.Common.{◌≡◌, length, rules}
use Rattle.idsig_v4.specs.Grammar.{idsig_bytes, head_for}
use Rattle.idsig_v4.proofs.Spelled.{written, read_again}
use Rattle.idsig_v4.proofs.writing.write_idsig.Goals as goal

pub returns-clause-again : goal.returns-clause-again
returns-clause-again c =
    let root_len : length c.args.root.now.0 ≡ 32 = search rules in
    written c.args.salt.now c.args.root.now c.args.signing.now c.args.tree.now c.bytes-salt.ensures.len root_len c.requires.most c.requires.some c.requires.size

pub returns-clause-read : goal.returns-clause-read
returns-clause-read c =
    let root_len : length c.args.root.now.0 ≡ 32 = search rules in
    let is = written c.args.salt.now c.args.root.now c.args.signing.now c.args.tree.now c.bytes-salt.ensures.len root_len c.requires.most c.requires.some c.requires.size in
    read_again (idsig_bytes c.args.salt.now c.args.root.now.0 c.args.signing.now c.args.tree.now) (head_for c.args.salt.now c.args.root.now c.args.signing.now c.args.tree.now) is
