-- The error numbers of Linux.
use Rattle.std.specs.Prelude.{ℕ}
use Rattle.mg_base.specs.declared.errno.Errno.{Errno}
use Rattle.mg_base.specs.declared.errno.Errno.TheVariants.{Enoent, Eio, Ebadf, Enomem, Eacces, Eexist, Enotdir, Eisdir, Einval, Efbig, Enospc, Enosys, Enotempty, Eproto}

abbrev pub errno_number : Errno → ℕ
errno_number Enoent = 2
errno_number Eio = 5
errno_number Ebadf = 9
errno_number Enomem = 12
errno_number Eacces = 13
errno_number Eexist = 17
errno_number Enotdir = 20
errno_number Eisdir = 21
errno_number Einval = 22
errno_number Efbig = 27
errno_number Enospc = 28
errno_number Enosys = 38
errno_number Enotempty = 39
errno_number Eproto = 71
