-- What files hold, and what reading one answers.
use Rattle.std.specs.Prelude.{◌≡◌, ℕ, ◌<◌, List, [], ◌∷◌, length, find, nat_eq, Option, Some, None, option_map, IsSomeAnd, Result, Ok, Err}
use Rattle.std.specs.Cmp.Lexicographic.{pointwise}
use Rattle.rip_outer.specs.Outside.{Rose, also}
use Rattle.rip_outer.specs.declared.reading.NamedFile.{NamedFile}
use Rattle.rip_outer.specs.declared.reading.FilesError.{FilesError}
use Rattle.rip_outer.specs.declared.reading.FilesError.TheVariants.{Failed, TooLong, Memory}

-- the contents of the first file of that name
abbrev pub contents_of : List NamedFile → List ℕ → Option (List ℕ)
contents_of files name = option_map (λ file. file.contents) (find (λ file. pointwise nat_eq file.name name) files)

-- these are the contents of the file of that name, where it is told what is held
abbrev pub IsContents : Option (List NamedFile) → List ℕ → List ℕ → Type 0
IsContents None name bytes = Unit {0}
IsContents (Some files) name bytes = contents_of files name ≡ Some bytes

-- the greatest length of a file, in bytes
abbrev pub longest_file : ℕ
longest_file = 16777216

-- the file of that name passes the greatest length, where it is told what is held
abbrev pub IsTooLong : Option (List NamedFile) → List ℕ → Type 0
IsTooLong None name = Unit {0}
IsTooLong (Some files) name = IsSomeAnd (contents_of files name) (λ bytes. longest_file < length bytes)

-- the names asked grow by this one, but want of memory adds nothing
abbrev pub Asks : Result (List ℕ) FilesError → List ℕ → Option (List (List ℕ)) → Option (List (List ℕ)) → Type 0
Asks (Ok bytes) name old new = new ≡ also (name ∷ []) old
Asks (Err Failed) name old new = new ≡ also (name ∷ []) old
Asks (Err TooLong) name old new = new ≡ also (name ∷ []) old
Asks (Err Memory) name old new = new ≡ old

-- the count rose where the answer is Failed, and else is as it was
abbrev pub CountsRead : Result (List ℕ) FilesError → ℕ → ℕ → Type 0
CountsRead (Ok bytes) old new = new ≡ old
CountsRead (Err Failed) old new = Rose old new
CountsRead (Err TooLong) old new = new ≡ old
CountsRead (Err Memory) old new = new ≡ old
