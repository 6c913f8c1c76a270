use Rattle.std.proofs.Common.{rules, Ok, Err}
use Rattle.fuse_server.specs.declared.deed.Deed.TheVariants as deed
use Rattle.fuse_server.proofs.Plain.{plain_at, read_did}
use Rattle.fuse_server.proofs.answer.finish.Goals as goal

pub returns-in-Ok-Silent-clause-did : goal.returns-in-Ok-Silent-clause-did
returns-in-Ok-Silent-clause-did g c aim w = plain_at _ aim c.args.deed (Ok deed.Silent) _ _ _ (search rules) tt (search rules) (search rules) w

pub returns-in-Ok-Empty-clause-did : goal.returns-in-Ok-Empty-clause-did
returns-in-Ok-Empty-clause-did g c aim w = plain_at _ aim c.args.deed (Ok deed.Empty) _ _ _ (search rules) tt (search rules) (search rules) w

pub returns-in-Ok-Entry-clause-did : goal.returns-in-Ok-Entry-clause-did
returns-in-Ok-Entry-clause-did g c aim w = plain_at _ aim c.args.deed (Ok (deed.Entry c.in-Ok-Entry.entry)) _ _ _ (search rules) tt (search rules) (search rules) w

pub returns-in-Ok-Attr-clause-did : goal.returns-in-Ok-Attr-clause-did
returns-in-Ok-Attr-clause-did g c aim w = plain_at _ aim c.args.deed (Ok (deed.Attr c.in-Ok-Attr.attr)) _ _ _ (search rules) tt (search rules) (search rules) w

pub returns-in-Ok-Opened-clause-did : goal.returns-in-Ok-Opened-clause-did
returns-in-Ok-Opened-clause-did g c aim w = plain_at _ aim c.args.deed (Ok (deed.Opened c.in-Ok-Opened.handle)) _ _ _ (search rules) tt (search rules) (search rules) w

pub returns-in-Ok-Statfs-clause-did : goal.returns-in-Ok-Statfs-clause-did
returns-in-Ok-Statfs-clause-did g c aim w = plain_at _ aim c.args.deed (Ok deed.Statfs) _ _ _ (search rules) tt (search rules) (search rules) w

pub returns-in-Ok-Init-clause-did : goal.returns-in-Ok-Init-clause-did
returns-in-Ok-Init-clause-did g c aim w = plain_at _ aim c.args.deed (Ok (deed.Init c.in-Ok-Init.init)) _ _ _ (search rules) tt (search rules) (search rules) w

pub returns-in-Ok-Names-clause-did : goal.returns-in-Ok-Names-clause-did
returns-in-Ok-Names-clause-did g c aim w = plain_at _ aim c.args.deed (Ok (deed.Names c.in-Ok-Names.listing)) _ _ _ (search rules) tt (search rules) (search rules) w

pub returns-in-Ok-NoneWritten-clause-did : goal.returns-in-Ok-NoneWritten-clause-did
returns-in-Ok-NoneWritten-clause-did g c aim w = plain_at _ aim c.args.deed (Ok deed.NoneWritten) _ _ _ (search rules) tt (search rules) (search rules) w

pub returns-in-Ok-Read-clause-did : goal.returns-in-Ok-Read-clause-did
returns-in-Ok-Read-clause-did g c aim w = read_did _ aim c.args.deed c.in-Ok-Read.reading _ _ _ _ (search rules) w c.answer_read.ensures.did

pub returns-in-Err-clause-did : goal.returns-in-Err-clause-did
returns-in-Err-clause-did g c aim w = plain_at _ aim c.args.deed (Err c.in-Err.errno) _ _ _ (search rules) tt (search rules) (search rules) w
