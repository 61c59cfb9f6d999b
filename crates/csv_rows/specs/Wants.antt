-- The errors of csv that stand for want of memory.
use Rattle.std.specs.Prelude.{⊤}
use Rattle.csv.specs.declared.error.ErrorKind.{ErrorKind}
use Rattle.csv.specs.declared.error.ErrorKind.TheVariants as kind

-- memory ran out, or the buffer underneath failed, which lies in memory
abbrev pub IsWantOfMemory : ErrorKind → Type 0
IsWantOfMemory kind.OutOfMemory = ⊤
IsWantOfMemory (kind.Io e) = ⊤
IsWantOfMemory (kind.UnequalLengths pos expected len) = ⊥
IsWantOfMemory (kind.Utf8 pos err) = ⊥
IsWantOfMemory (kind.Serialize text) = ⊥
IsWantOfMemory (kind.Deserialize pos err) = ⊥
