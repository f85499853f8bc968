-- How what is told in one call and in the next makes what both told.
use Rattle.std.proofs.Common.{◌≡◌, ℕ, List, [], ◌++◌, Option, Some, None, refl, sym, ◌∙◌, ap, append_assoc, append-nil, map}
use Rattle.std.proofs.lemmas.List.{map-append}
use Rattle.rip_outer.specs.Outside.{also, before, Front}
use Rattle.rip_outer.specs.Connections.{Telling, knocked, Goes}
use Rattle.rip_outer.specs.declared.connections.TraceKnock.{TraceKnock}

-- nothing more is told
pub also-nil : {A : Type 0} (o : Option (List A)) → o ≡ also [] o
also-nil None = refl
also-nil (Some old) = ap Some (sym (append-nil old))

-- xs are told and then ys
pub also-also : {A : Type 0} (xs ys : List A) (o : Option (List A)) → also ys (also xs o) ≡ also (xs ++ ys) o
also-also xs ys None = refl
also-also xs ys (Some old) = ap Some (append_assoc old xs ys)

-- nothing was left to be told before what is left
pub before-nil : {A : Type 0} (o : Option (List A)) → o ≡ before [] o
before-nil None = refl
before-nil (Some rest) = refl

-- xs were left before ys
pub before-before : {A : Type 0} (xs ys : List A) (o : Option (List A)) → before xs (before ys o) ≡ before (xs ++ ys) o
before-before xs ys None = refl
before-before xs ys (Some rest) = ap Some (sym (append_assoc xs ys rest))

-- a door that tells nothing stays where it is
pub Goes-nil : (k : Telling) → Goes k k []
Goes-nil k = record { told = also-nil k.told; left = before-nil k.left }

-- a door tells xs and then ys
pub Goes-then : {a b c : Telling} (xs ys : List TraceKnock) → Goes a b xs → Goes b c ys → Goes a c (xs ++ ys)
Goes-then {a} {b} {c} xs ys first second = record {
  told = second.told ∙ ap (also (map knocked ys)) first.told ∙ also-also (map knocked xs) (map knocked ys) a.told ∙ ap (λ ks. also ks a.told) (sym (map-append knocked xs ys));
  left = first.left ∙ ap (before xs) second.left ∙ before-before xs ys c.left;
}

-- all of the bytes are a front of them, and so is nothing
pub Front-whole : (bytes : List ℕ) (old new : Option (List ℕ)) → new ≡ also bytes old → Front bytes old new
Front-whole bytes old new added =
    record { front = bytes; rest = []; parts = sym (append-nil bytes); added = added }

pub Front-none : (bytes : List ℕ) (old new : Option (List ℕ)) → new ≡ old → Front bytes old new
Front-none bytes old new same =
    record { front = []; rest = bytes; parts = refl; added = same ∙ also-nil old }

-- bytes that were added and a front of more bytes are a front of both
pub Front-after : (xs bytes : List ℕ) (old mid new : Option (List ℕ)) → mid ≡ also xs old → Front bytes mid new → Front (xs ++ bytes) old new
Front-after xs bytes old mid new added f = record {
  front = xs ++ f.front;
  rest = f.rest;
  parts = ap (λ more. xs ++ more) f.parts ∙ sym (append_assoc xs f.front f.rest);
  added = f.added ∙ ap (also f.front) added ∙ also-also xs f.front old;
}

-- a front of some bytes is a front of those and more
pub Front-longer : (xs bytes : List ℕ) (old new : Option (List ℕ)) → Front xs old new → Front (xs ++ bytes) old new
Front-longer xs bytes old new f = record {
  front = f.front;
  rest = f.rest ++ bytes;
  parts = ap (λ more. more ++ bytes) f.parts ∙ append_assoc f.front f.rest bytes;
  added = f.added;
}
