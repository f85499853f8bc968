use Rattle.std.proofs.Common.{◌≡◌, ◌++◌, ◌∷◌, [], ◌∙◌, sym, ap, length, map, Some, arith, length-append}
use Rattle.std.proofs.lemmas.List.{length-map, map-append}
use Rattle.std.proofs.lemmas.Map.Text.{btree_map_updates_str}
use Rattle.rip_early.specs.Names.{place_in}
use Rattle.rip_early.specs.Indexed.{names_of}
use Rattle.rip_early.proofs.Indexing.{found-behind}
use Rattle.rip_early.proofs.names.Names.add_new.Goals as goal

pub returns-clause-kept : goal.returns-clause-kept
returns-clause-kept c =
    let names : map (λ r. r.now) c.push.new.self.items ≡ names_of c.args.self.now ++ c.args.name.now ∷ [] =
    ap (map (λ r. r.now)) c.in_ok-push.ensures.items ∙ map-append (λ r. r.now) c.args.self.now.list.items (c.args.name ∷ []) in
    let many : length (names_of c.args.self.now) ≡ length c.args.self.now.list.items = length-map c.args.self.now.list.items (λ r. r.now) in
    let place : c.len-place.result ≡ length (names_of c.args.self.now) = omega arith in
    record {
      found = λ q. btree_map_updates_str c.args.name.now c.args.self.now.places c.insert.new.self (Some c.len-place.result) c.in_ok-insert.ensures.updates q
          ∙ found-behind (names_of c.args.self.now) c.args.name.now q c.len-place.result _ c.requires.absent place (c.requires.kept.found q)
          ∙ ap (λ ns. place_in ns q) (sym names);
      counted = omega (arith, ap length c.in_ok-push.ensures.items, length-append c.args.self.now.list.items (c.args.name ∷ []));
    }
