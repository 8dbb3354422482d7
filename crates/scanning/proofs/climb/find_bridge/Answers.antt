use Rattle.std.proofs.Common.{rules, ◌≡◌, drop, ◌+◌, tests}
use Rattle.std.proofs.lemmas.Iterator.{YieldsList-from_slice}
use Rattle.std.proofs.lemmas.Iterator.Adapters.{YieldsList-from_skip}
use Rattle.std.proofs.lemmas.Iterator.Search.{position_from_yields_List}
use Rattle.std.specs.List.{position}
use Rattle.std.specs.Option.{option_map}
use Rattle.book.specs.Tables.{rows_of}
use Rattle.numbering.specs.Rule.{next_bridge, bridge_of}
use Rattle.scanning.proofs.climb.find_bridge.Goals as goal

pub returns-clause-picks : goal.returns-clause-picks
unfolding next_bridge
returns-clause-picks c =
    let q : c.map.result ≡ option_map (λ k. c.args.first + k) c.position.result = search rules in
    let p : c.position.result ≡ position (bridge_of c.args.parent) (drop c.args.first (rows_of c.args.functions.now)) =
    position_from_yields_List (bridge_of c.args.parent) _ _ c.position.result c.position.ensures.ran (YieldsList-from_skip c.args.first (YieldsList-from_slice (rows_of c.args.functions.now) cc) cc) (λ x b q k. search (rules, tests)) in
    cc
