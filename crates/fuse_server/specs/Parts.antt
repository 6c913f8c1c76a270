-- The state of a server, by its parts.
use Rattle.fuse_server.specs.declared.parts.Parts.{Parts}
use Rattle.fuse_server.specs.State.{State}

abbrev pub state_of : Parts → State
state_of s = record { ready = s.ready; names = s.dirs; open_handles = s.handles.open_handles; given = s.handles.given; files = s.files; writables = s.writables.entries }
