-- How the lines of a trace are spelled.
use Rattle.std.specs.Prelude.{◌≡◌, ℕ, ◌<◌, ◌≤◌, ◌^◌, List, ◌∷◌, ◌++◌, length, codes, decimal, Ok}
use Rattle.std.specs.Int.{from_be_bytes, w64}
use Rattle.hex.specs.Hex.{decode_of, decode_sized}
use Rattle.rip_trace.specs.Lines.{Asked, page, report, quit, Line, comment, moment, word, opens, sends, goes, quiet, says}

-- 16 hexadecimal digits, in small letters or capitals, are this word
pub record IsWord (digits : List ℕ) (w : ℕ) : Type 0 where
  pub octets : List ℕ
  pub are : decode_sized digits 8 ≡ Ok octets
  pub is : w ≡ from_be_bytes w64 octets

-- hexadecimal digits, in small letters or capitals, are these 1 to 4,096 bytes
pub record IsPiece (digits piece : List ℕ) : Type 0 where
  pub are : decode_of digits ≡ Ok piece
  pub some : 1 ≤ length piece
  pub few : length piece ≤ 4096

-- the ordinal of a session
pub record IsSession (s : ℕ) : Type 0 where
  pub from_one : 1 ≤ s
  pub small : s < 2 ^ 32

-- `get`, `e S BODY` or `q S`
abbrev pub IsAsked : List ℕ → Asked → Type 0
IsAsked bytes page = bytes ≡ codes "get"
IsAsked bytes (report s body) = (bytes ≡ codes "e " ++ (decimal s ++ 32 ∷ body)) × IsSession s
IsAsked bytes (quit s) = (bytes ≡ codes "q " ++ decimal s) × IsSession s

-- numerals have no leading zeros, and the numbers of connections are below 2^64
abbrev pub IsSpelled : List ℕ → Line → Type 0
-- a line that begins with `#`
IsSpelled bytes (comment text) = bytes ≡ codes "#" ++ text
-- time M
IsSpelled bytes (moment m) = (bytes ≡ codes "time " ++ decimal m) × (m < 2 ^ 53)
-- word H
IsSpelled bytes (word w) = (digits : List ℕ) × (bytes ≡ codes "word " ++ digits) × IsWord digits w
-- open C
IsSpelled bytes (opens c) = (bytes ≡ codes "open " ++ decimal c) × (c < 2 ^ 64)
-- send C HEX
IsSpelled bytes (sends c piece) = (digits : List ℕ) × (bytes ≡ codes "send " ++ (decimal c ++ 32 ∷ digits)) × (c < 2 ^ 64) × IsPiece digits piece
-- gone C
IsSpelled bytes (goes c) = (bytes ≡ codes "gone " ++ decimal c) × (c < 2 ^ 64)
-- quiet
IsSpelled bytes quiet = bytes ≡ codes "quiet"
-- say C get, say C e S BODY, say C q S
IsSpelled bytes (says c asked) = (asks : List ℕ) × (bytes ≡ codes "say " ++ (decimal c ++ 32 ∷ asks)) × (c < 2 ^ 64) × IsAsked asks asked
