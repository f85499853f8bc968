-- The lines of a trace.
use Rattle.std.specs.Prelude.{ℕ, List}

-- what a client asks for: the page; that a batch of a session, by its ordinal, be admitted; that a session be closed
pub data Asked : Type 0 where
  page : Asked
  report : ℕ → List ℕ → Asked
  quit : ℕ → Asked

-- a comment, which is skipped; the moment of the turns that follow; the next word that is drawn; a connection is opened,
-- by its number; a piece comes on a connection; a connection goes; nothing comes; a request comes on a connection
pub data Line : Type 0 where
  comment : List ℕ → Line
  moment : ℕ → Line
  word : ℕ → Line
  opens : ℕ → Line
  sends : ℕ → List ℕ → Line
  goes : ℕ → Line
  quiet : Line
  says : ℕ → Asked → Line
