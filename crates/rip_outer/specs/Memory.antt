-- What the forms in memory hold, and what a call of one does.
use Rattle.std.specs.Prelude.{◌≡◌, ℕ, ◌+◌, ◌≤◌, List, [], ◌∷◌, ◌++◌, length, take, Contains, Some, None, ◌⊎◌, Result, Ok, Err}
use Rattle.rip_outer.specs.Outside.{one_more}
use Rattle.rip_outer.specs.Reading.{contents_of, longest_file, IsTooLong}
use Rattle.rip_outer.specs.declared.reading.NamedFile.{NamedFile}
use Rattle.rip_outer.specs.declared.reading.FilesError.{FilesError}
use Rattle.rip_outer.specs.declared.reading.FilesError.TheVariants as files
use Rattle.rip_outer.specs.declared.writing.SinkError.{SinkError}
use Rattle.rip_outer.specs.declared.writing.SinkError.TheVariants as sink

-- a sink in memory: the bytes put, the numbers of the calls that fail, and how many calls were made and failed
pub record SinkState : Type 0 where
  pub bytes : List ℕ
  pub failing : List ℕ
  pub calls : ℕ
  pub faults : ℕ

-- a sink as it is made
abbrev pub new_sink : List ℕ → SinkState
new_sink failing = record { bytes = []; failing = failing; calls = 0; faults = 0 }

-- a put adds its bytes, or nothing where it fails or wants memory; a failing one is counted
abbrev pub after_put : {A : Type 0} → Result A SinkError → List ℕ → SinkState → SinkState
after_put (Ok done) bytes s = record s { bytes = s.bytes ++ bytes; calls = one_more s.calls }
after_put (Err sink.Failed) bytes s = record s { calls = one_more s.calls; faults = one_more s.faults }
after_put (Err sink.Memory) bytes s = record s { calls = one_more s.calls }

-- a sink in memory that takes a front of the bytes where it fails: the bytes put, the number of the call that fails, how
-- many bytes that takes at most, and how many calls were made and failed
pub record PartState : Type 0 where
  pub bytes : List ℕ
  pub failing : ℕ
  pub part : ℕ
  pub calls : ℕ
  pub faults : ℕ

abbrev pub new_part_sink : ℕ → ℕ → PartState
new_part_sink call count = record { bytes = []; failing = call; part = count; calls = 0; faults = 0 }

-- a put that fails takes the first of its bytes, and is counted
abbrev pub with_part : List ℕ → PartState → PartState
with_part bytes s = record s { bytes = s.bytes ++ take s.part bytes; faults = one_more s.faults }

-- a put adds its bytes, or the first of them where it fails, or nothing where it wants memory
abbrev pub after_part : {A : Type 0} → Result A SinkError → List ℕ → PartState → PartState
after_part (Ok done) bytes s = record s { bytes = s.bytes ++ bytes; calls = one_more s.calls }
after_part (Err sink.Failed) bytes s = with_part bytes (record s { calls = one_more s.calls })
after_part (Err sink.Memory) bytes s = record s { calls = one_more s.calls }

-- files in memory: the files, the numbers of the calls that fail, the names asked, and how many calls were made and
-- failed
pub record FilesState : Type 0 where
  pub files : List NamedFile
  pub failing : List ℕ
  pub asked : List (List ℕ)
  pub calls : ℕ
  pub faults : ℕ

-- files as they are made
abbrev pub new_files : List NamedFile → List ℕ → FilesState
new_files files failing = record { files = files; failing = failing; asked = []; calls = 0; faults = 0 }

-- the next call fails: its number, counted from 1, is listed, or there is no file of that name
abbrev pub Fails : FilesState → List ℕ → Type 0
Fails s name = Contains s.failing (s.calls + 1) ⊎ (contents_of s.files name ≡ None)

-- what the next call answers, want of memory aside: the contents, or Failed exactly where it fails, or TooLong exactly
-- where it doesn't and the file passes the greatest length
abbrev pub Answers : FilesState → List ℕ → Result (List ℕ) FilesError → Type 0
Answers s name (Ok bytes) = (¬ Fails s name) × (contents_of s.files name ≡ Some bytes) × (length bytes ≤ longest_file)
Answers s name (Err files.Failed) = Fails s name
Answers s name (Err files.TooLong) = (¬ Fails s name) × IsTooLong (Some s.files) name
Answers s name (Err files.Memory) = Unit {0}

-- a read adds the name to the names asked, or nothing where it wants memory; a failing one is counted
abbrev pub after_read : Result (List ℕ) FilesError → List ℕ → FilesState → FilesState
after_read (Ok bytes) name s = record s { asked = s.asked ++ name ∷ []; calls = one_more s.calls }
after_read (Err files.Failed) name s =
    record s { asked = s.asked ++ name ∷ []; calls = one_more s.calls; faults = one_more s.faults }
after_read (Err files.TooLong) name s = record s { asked = s.asked ++ name ∷ []; calls = one_more s.calls }
after_read (Err files.Memory) name s = record s { calls = one_more s.calls }
