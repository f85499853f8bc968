-- The definitions at small cases, by computing.
use Rattle.std.proofs.Common.{◌≡◌, [], ◌∷◌, Some, refl}
use Rattle.rip_outer.specs.Pieces.{pieces}
use Rattle.rip_outer.specs.Connections.{knocked, lost, telling, IsAllowedAfter, hushed, loses, left_after, also_shut}
use Rattle.rip_outer.specs.declared.connections.TraceKnock.TheVariants.{Opened, Bytes, Gone, Quiet}
use Rattle.rip_outer.specs.declared.connections.Knock.TheVariants as knock
use Rattle.rip_outer.specs.declared.connections.Sent.TheVariants as sent

-- an empty text has no piece, a lone line feed one, and a text of two ends with or without a line feed
no_piece : pieces [] ≡ []
no_piece = refl

one_empty_piece : pieces (10 ∷ []) ≡ [] ∷ []
one_empty_piece = refl

two_pieces : pieces (1 ∷ 10 ∷ 2 ∷ 3 ∷ []) ≡ (1 ∷ []) ∷ (2 ∷ 3 ∷ []) ∷ []
two_pieces = refl

two_pieces_ended : pieces (1 ∷ 10 ∷ 2 ∷ 3 ∷ 10 ∷ []) ≡ (1 ∷ []) ∷ (2 ∷ 3 ∷ []) ∷ []
two_pieces_ended = refl

three_pieces : pieces (10 ∷ 10 ∷ 1 ∷ []) ≡ [] ∷ [] ∷ (1 ∷ []) ∷ []
three_pieces = refl

-- a piece is told with the first bytes of the room
piece_of_two : telling (knock.Bytes 5 2) (7 ∷ 8 ∷ 9 ∷ []) ≡ Bytes 5 (7 ∷ 8 ∷ []) ∷ []
piece_of_two = refl

-- the second connection has number 1
second_opening : IsAllowedAfter (knocked (Opened 0) ∷ knocked Quiet ∷ []) [] (Opened 1)
second_opening = refl

-- of a connection that is gone or shut nothing but Quiet comes, and of the others all
hushed_1 : hushed 1 (Bytes 1 (7 ∷ []) ∷ Gone 2 ∷ Gone 1 ∷ Opened 3 ∷ []) ≡ Quiet ∷ Gone 2 ∷ Quiet ∷ Opened 3 ∷ []
hushed_1 = refl

-- a send that finds its connection gone tells so, and what was left to come of it is hushed
lost_0 : loses sent.Gone 0 ≡ lost 0 ∷ []
lost_0 = refl

left_after_lost_0 : left_after sent.Gone 0 (Some (Bytes 0 (7 ∷ []) ∷ Opened 1 ∷ [])) ≡ Some (Quiet ∷ Opened 1 ∷ [])
left_after_lost_0 = refl

-- a shut after two knocks, between which a send found its connection gone
shut_after_two : also_shut 0 (Some (knocked (Opened 0) ∷ lost 0 ∷ knocked Quiet ∷ [])) (Some []) ≡ Some ((0, 2) ∷ [])
shut_after_two = refl
