-- Where the head of a message stands in a stream of bytes (RFC 9112, sections 2.1 and 2.2).
use Rattle.std.specs.Prelude.{◌≡◌, ℕ, suc, ◌<◌, ◌≤◌, ◌==◌, ◌⊎◌, ◌||◌, Bool, List, [], ◌∷◌, ◌++◌, length, take, drop, Option, Some, None, option_map, if◌then◌else◌}
use Rattle.rip_http.specs.declared.head.Scan.{Scan}
use Rattle.rip_http.specs.declared.head.Scan.TheVariants.{Before, Inside, AfterFeed, AfterReturn}

-- CR or LF
abbrev pub is_line_byte : ℕ → Bool
is_line_byte b = b == 13 || b == 10

-- how many CR and LF stand at the front
abbrev pub blank : List ℕ → ℕ
blank [] = 0
blank (b ∷ bytes) = if is_line_byte b then suc (blank bytes) else 0

-- of the first n bytes, those behind the CR and LF at the front
abbrev pub head_at : List ℕ → ℕ → List ℕ
head_at bytes n = drop (blank (take n bytes)) (take n bytes)

-- an LF directly followed by LF, or by CR LF, ends these bytes
abbrev pub EndsInEmptyLine : List ℕ → Type 0
EndsInEmptyLine bytes =
    (front : List ℕ) × ((bytes ≡ front ++ 10 ∷ 10 ∷ []) ⊎ (bytes ≡ front ++ 10 ∷ 13 ∷ 10 ∷ []))

-- the head ends behind the first n bytes: with the first empty line behind a byte that is neither
-- CR nor LF
pub record IsHeadEnd (bytes : List ℕ) (n : ℕ) : Type 0 where
  pub within : n ≤ length bytes
  pub ends : EndsInEmptyLine (head_at bytes n)
  pub first : (m : ℕ) → m < n → ¬ EndsInEmptyLine (head_at bytes m)

-- the same as a search that looks at each byte once. None: this byte ends the head
abbrev pub step : Scan → ℕ → Option Scan
step Before b = if is_line_byte b then Some Before else Some Inside
step Inside b = if b == 10 then Some AfterFeed else Some Inside
step AfterFeed b = if b == 10 then None else if b == 13 then Some AfterReturn else Some Inside
step AfterReturn b = if b == 10 then None else Some Inside

-- where a byte ends the head, or goes on from the next state
abbrev pub ended_or : {A : Type 0} → A → Option Scan → (Scan → A) → A
ended_or ended None go = ended
ended_or ended (Some next) go = go next

-- the state behind bytes in which no head ends
abbrev pub after : Scan → List ℕ → Option Scan
after scan [] = Some scan
after scan (b ∷ bytes) = ended_or None (step scan b) (λ next. after next bytes)

-- how many bytes up to the head's end
abbrev pub end_from : Scan → List ℕ → Option ℕ
end_from scan [] = None
end_from scan (b ∷ bytes) =
    ended_or (Some 1) (step scan b) (λ next. option_map (λ n. suc n) (end_from next bytes))

-- how many bytes up to the end of the head that begins here
abbrev pub head_end : List ℕ → Option ℕ
head_end = end_from Before
