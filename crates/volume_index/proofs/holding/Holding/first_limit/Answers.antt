use Rattle.std.proofs.Common.{◌≡◌, ap, subst}
use Rattle.std.specs.Prelude.{not}
use Rattle.std.specs.List.{filter}
use Rattle.std.specs.FinMap as map
use Rattle.site_forms.specs.Volumes.{Shape, distinct_count}
use Rattle.volume_index.specs.FirstLimits.{first_limit}
use Rattle.volume_index.specs.HoldingValues.{HoldingValue}
use Rattle.volume_index.proofs.holding.Holding.first_limit.Goals as goal

pub returns-clause-first : goal.returns-clause-first
returns-clause-first c = λ list.
    subst (λ (s : Shape). filter (map.contains_key s.chunks) list ≡ c.args.held.now → distinct_count (filter (λ n. not (map.contains_key s.chunks n)) list) ≡ c.args.lacking → c.first_limit.result ≡ first_limit s list)
    (ap (λ (v : HoldingValue). v.shape) c.self.view_is) (c.first_limit.ensures.first list)
