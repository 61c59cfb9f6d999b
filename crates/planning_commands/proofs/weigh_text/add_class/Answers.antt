use Rattle.planning_commands.proofs.weigh_text.add_class.Goals as goal

pub count_inside-inside-requires : goal.count_inside-inside-requires
count_inside-inside-requires c = rw c.requires.width c.users-users.ensures.below
