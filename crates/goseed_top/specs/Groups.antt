-- The commands by what carries them out.
use Rattle.goseed_words.specs.Commands.{Command, Best, Weigh, Check, Relax, Plan, Pinned, Gen, Greedy, Gap, Sort, Carry}
use Rattle.goseed_top.specs.declared.groups.Group.{Group}
use Rattle.goseed_top.specs.declared.groups.Group.TheVariants.{Reading, Searching, Trying, Ordering}

abbrev pub group : Command → Group
group Best = Reading
group Weigh = Reading
group Check = Reading
group Relax = Reading
group Plan = Searching
group Pinned = Searching
group Gen = Trying
group Greedy = Trying
group Gap = Trying
group Sort = Ordering
group Carry = Ordering
