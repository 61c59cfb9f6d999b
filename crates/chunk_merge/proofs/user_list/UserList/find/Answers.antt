use Rattle.std.specs.Prelude.{Vec}
use Rattle.std.proofs.Common.{ℕ, Global}
use Rattle.list_facts.proofs.Numbering.{number_of_view}
use Rattle.chunk_merge.specs.Merged.{same_users}
use Rattle.chunk_merge.proofs.user_list.UserList.find.Goals as goal

pub returns : goal.returns
returns c = rw (← c.self.view_is) (number_of_view (λ (v : Vec ℕ Global). v.items) (same_users c.args.users.now) c.self.inside.lists.keys c.get_index_of.result c.get_index_of.ensures.index)
