-- What is taken from the front of a connection.
use Rattle.std.proofs.Common.{◌≡◌, inl, inr, ℕ, suc, ◌+◌, ◌≤◌, Bool, true, false, cond, leb, List, [], ◌∷◌, length, take, Option, Some, None, refl, sym, ap, ◌∙◌, arith}
use Rattle.std.specs.Prelude.{option_map}
use Rattle.rip_http.specs.Heads.{step, ended_or, end_from, head_end}
use Rattle.rip_http.specs.Stream.{waits, refuses, takes, behind, IsNext, IsNextAt}
use Rattle.rip_http.specs.Verdicts.{Verdict, Refuses, Goes}
use Rattle.rip_http.specs.declared.head.Scan.{Scan}
use Rattle.rip_http.specs.declared.head.Scan.TheVariants.{Before}
use Rattle.rip_http.specs.declared.request.Message.{Message}
use Rattle.rip_http.specs.declared.request.RefusedHead.{RefusedHead}
use Rattle.rip_http.proofs.HeadLemmas.{mapped}
use Rattle.rip_http.proofs.StreamLemmas.{takes_stay}
use Rattle.rip_history.specs.Run.{IsQuiet}
use Rattle.rip_server.specs.Links.{owed_of, link_of}
use Rattle.rip_server.specs.declared.connection.Connection.{Connection}
use Rattle.rip_server.specs.declared.connection.Wait.{Wait}

-- ---- a message has a byte

end_some : (s : Scan) (xs : List ℕ) (n : ℕ) → end_from s xs ≡ Some n → 1 ≤ n
end_some s [] n e = cc
end_some s (b ∷ xs) n e = by (step s b) e
  where
    by : (o : Option Scan) → ended_or (Some 1) o (λ next. option_map (λ k. suc k) (end_from next xs)) ≡ Some n → 1 ≤ n
    by None e = let same : 1 ≡ n = cc in omega (arith, same)
    by (Some next) e = let (m, found, is) = mapped (end_from next xs) n e in omega (arith, is)

at_least : (o : Option ℕ) (bytes : List ℕ) (n : ℕ) (m : Message) → ((k : ℕ) → o ≡ Some k → 1 ≤ k) → IsNextAt o bytes (takes n m) → 1 ≤ n
at_least None bytes n m some e = by (leb 8192 (length bytes)) _ e
  where
    by : (b : Bool) (r : RefusedHead) → takes n m ≡ cond b (refuses 8192 r) waits → 1 ≤ n
    by true r e = cc
    by false r e = cc
at_least (Some k) bytes n m some (v, is, e) = by v e
  where
    whole : (b : Bool) (size : ℕ) (other : Message) → takes n m ≡ cond b (takes (k + size) other) waits → 1 ≤ n
    whole true size other e = let same : n ≡ k + size = cc in omega (arith, same, some k refl)
    whole false size other e = cc

    by : (v : Verdict) → takes n m ≡ behind bytes k v → 1 ≤ n
    by (Refuses r) e = cc
    by (Goes going segment) e = whole (leb (k + going.size) (length bytes)) going.size _ e

pub took_some : (bytes : List ℕ) (n : ℕ) (m : Message) → IsNext bytes (takes n m) → 1 ≤ n
took_some bytes n m next = at_least (head_end (take 8192 bytes)) bytes n m (λ k e. end_some Before (take 8192 bytes) k e) next

pub took_within : (bytes : List ℕ) (n : ℕ) (m : Message) → IsNext bytes (takes n m) → n ≤ length bytes
took_within bytes n m next = let stays = takes_stay bytes [] n m next in stays.0

-- ---- a connection that has something to handle

pub due_free : (c : Connection) → ¬ IsQuiet (link_of c) → c.waits ≡ None
due_free c due = by c.waits refl
  where
    by : (o : Option Wait) → c.waits ≡ o → o ≡ None
    by None e = refl
    by (Some w) e = absurd (due (inl (λ none. let both : Some (owed_of w) ≡ None = sym (ap (option_map owed_of) e) ∙ none in cc)))

pub due_waits : (c : Connection) → ¬ IsQuiet (link_of c) → ¬ IsNext c.conn waits
due_waits c due next = due (inr next)
