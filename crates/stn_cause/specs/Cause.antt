-- Why a file, a folder or an address can't be used: the cause of what a system answers, and what is said of it.
use Rattle.std.specs.Prelude.{ℕ, List, [], ◌∷◌, ◌++◌, codes}
use Rattle.stn_text.specs.Bytes.{line_feed}
use Rattle.std_io.specs.declared.io.kind.ErrorKind.{ErrorKind}
use Rattle.std_io.specs.declared.io.kind.ErrorKind.TheVariants as kind
use Rattle.stn_cause.specs.declared.cause.Cause.{Cause}
use Rattle.stn_cause.specs.declared.cause.Cause.TheVariants as cause

-- the cause of what the system answers
abbrev pub cause_of : ErrorKind → Cause
cause_of kind.NotFound = cause.Missing
cause_of kind.PermissionDenied = cause.Forbidden
cause_of kind.IsADirectory = cause.Folder
cause_of kind.NotADirectory = cause.BelowFile
cause_of kind.InvalidFilename = cause.LongName
cause_of kind.FilesystemLoop = cause.Links
cause_of kind.AlreadyExists = cause.There
cause_of kind.ReadOnlyFilesystem = cause.ReadOnly
cause_of kind.StorageFull = cause.NoRoom
cause_of kind.QuotaExceeded = cause.NoRoom
cause_of kind.AddrInUse = cause.InUse
cause_of kind.AddrNotAvailable = cause.Elsewhere
cause_of kind.ConnectionRefused = cause.Nobody
cause_of kind.HostUnreachable = cause.Unreachable
cause_of kind.NetworkUnreachable = cause.Unreachable
cause_of kind.NetworkDown = cause.Unreachable
cause_of kind.TimedOut = cause.Late
cause_of kind.WouldBlock = cause.Late
cause_of kind.BrokenPipe = cause.Left
cause_of kind.ConnectionReset = cause.Left
cause_of kind.ConnectionAborted = cause.Left
cause_of _ = cause.Refused

-- what is said of it, after a name
abbrev pub cause_text : Cause → List ℕ
cause_text cause.Missing = codes "no such file or folder"
cause_text cause.Forbidden = codes "permission denied"
cause_text cause.Folder = codes "is a folder"
cause_text cause.NotFile = codes "is not a file"
cause_text cause.BelowFile = codes "is below a file"
cause_text cause.LongName = codes "the name is too long"
cause_text cause.Links = codes "its links lead to each other"
cause_text cause.There = codes "is there already"
cause_text cause.OtherName = codes "has another name too"
cause_text cause.NotEmpty = codes "is not empty"
cause_text cause.TooLong = codes "has too many bytes"
cause_text cause.ReadOnly = codes "is on a disk that can't be written"
cause_text cause.NoRoom = codes "no room is left on the disk"
cause_text cause.Changed = codes "another program changed it meanwhile"
cause_text cause.InUse = codes "is in use"
cause_text cause.Elsewhere = codes "is not an address of this machine"
cause_text cause.NoAddress = codes "is not an address and a port (as 127.0.0.1:7000)"
cause_text cause.Nobody = codes "nobody answers"
cause_text cause.Unreachable = codes "can't be reached"
cause_text cause.Late = codes "no answer in time"
cause_text cause.Left = codes "the other end left"
cause_text cause.Unread = codes "can't be read"
cause_text cause.Unwritten = codes "can't be written"
cause_text cause.Refused = codes "the system refuses it"

-- the line that names what can't be used, and says why
abbrev pub trouble_text : List ℕ → Cause → List ℕ
trouble_text name why = name ++ (codes ": " ++ (cause_text why ++ line_feed ∷ []))
