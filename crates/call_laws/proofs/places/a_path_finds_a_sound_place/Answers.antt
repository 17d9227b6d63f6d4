use Rattle.call_laws.proofs.PlaceLaws.{sound_at, uncut_at, bare_at, dir_at, child_at, mount_at, lasting-start, lasting-doom}
use Rattle.call_laws.proofs.places.a_path_finds_a_sound_place.Goals as goal

pub returns-clause-sound : goal.returns-clause-sound
returns-clause-sound c = sound_at

pub returns-clause-uncut : goal.returns-clause-uncut
returns-clause-uncut c = uncut_at

pub returns-clause-bare : goal.returns-clause-bare
returns-clause-bare c = bare_at

pub returns-clause-dir : goal.returns-clause-dir
returns-clause-dir c = dir_at

pub returns-clause-child : goal.returns-clause-child
returns-clause-child c = child_at

pub returns-clause-mount : goal.returns-clause-mount
returns-clause-mount c = mount_at

pub returns-clause-start : goal.returns-clause-start
returns-clause-start c = lasting-start

pub returns-clause-doom : goal.returns-clause-doom
returns-clause-doom c = lasting-doom
