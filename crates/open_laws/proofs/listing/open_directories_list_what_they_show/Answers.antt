use Rattle.open_laws.proofs.ListLaws.{lists_places, lists_tree, history_places, history_tree}
use Rattle.open_laws.proofs.listing.open_directories_list_what_they_show.Goals as goal

pub returns-clause-place : goal.returns-clause-place
returns-clause-place c = lists_places

pub returns-clause-tree : goal.returns-clause-tree
returns-clause-tree c = lists_tree

pub returns-clause-history_place : goal.returns-clause-history_place
returns-clause-history_place c = history_places

pub returns-clause-history_tree : goal.returns-clause-history_tree
returns-clause-history_tree c = history_tree
