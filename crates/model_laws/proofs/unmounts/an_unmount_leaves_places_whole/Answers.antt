use Rattle.model_laws.proofs.UnmountLaws.{mounts_alone, others_stay, referred_stay, all_stay, layers_stay}
use Rattle.model_laws.proofs.unmounts.an_unmount_leaves_places_whole.Goals as goal

pub returns-clause-alone : goal.returns-clause-alone
returns-clause-alone c = mounts_alone

pub returns-clause-others : goal.returns-clause-others
returns-clause-others c = others_stay

pub returns-clause-referred : goal.returns-clause-referred
returns-clause-referred c = referred_stay

pub returns-clause-whole : goal.returns-clause-whole
returns-clause-whole c = all_stay

pub returns-clause-layers : goal.returns-clause-layers
returns-clause-layers c = layers_stay
