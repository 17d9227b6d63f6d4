-- What the calls on descriptors and on contents leave and need.
use Rattle.std.proofs.Common.{◌≡◌, ℕ, zero, suc, ◌+◌, ℤ, pos, negsuc, Bool, true, false, not, ◌&&◌, List, [], ◌∷◌, length, refl, ap, ◌∙◌, arith}
use Rattle.std.specs.Prelude.{Option, Some, None, nat_lt, is_some, ◌+ℤ◌}
use Rattle.std.specs.FinMap.{get, remove, len}
use Rattle.vfs_tree.specs.FileEdits.{written, resized}
use Rattle.vfs_tree.specs.Layers.{base, is_dir}
use Rattle.vfs_tree.specs.Nodes.{next_of}
use Rattle.vfs_tree.specs.Place.{Seen}
use Rattle.vfs_tree.specs.Views.{facts_of}
use Rattle.vfs_tree.specs.Visible.{visible}
use Rattle.vfs_tree.specs.declared.node.Node.TheVariants.{File}
use Rattle.vfs_tree.specs.declared.open.Open.{Open}
use Rattle.vfs_tree.specs.declared.walk.Found.{Found}
use Rattle.vfs_tree.specs.declared.walk.Found.TheVariants as found
use Rattle.vfs_tree.specs.declared.world.World.{World}
use Rattle.call_model.specs.Checks.{Doing, lifted, place_at, node_of, make_at}
use Rattle.call_model.specs.DataRows as rows
use Rattle.call_model.specs.NameRows.{stat_of}
use Rattle.call_model.specs.declared.call.Flags.{Flags}
use Rattle.call_model.specs.declared.call.Whence.{Whence}
use Rattle.call_model.specs.declared.entry.Inner.{Inner}
use Rattle.call_laws.specs.Flags.{is_dead_open}
use Rattle.call_laws.specs.Live.{live}
use Rattle.call_laws.proofs.FlagLaws.{no_flag, no_flag-through, no_flag-open, no_flag-close}
use Rattle.call_laws.proofs.NeedLaws.{FreeFound, free-visible}
use Rattle.call_laws.proofs.LiveCount.{live_opens, live_cwds, live-parts, opens-insert, opens-remove}
use Rattle.call_laws.proofs.Parts.{Keeps, Any, MakesNode, found_so, refused, then, unless, check, keeps-shadow, keeps-lifted, keeps-copied, Ready, Well, ready_at, keeps-found_at}
use Rattle.call_laws.proofs.NameParts.{Alone, Plain, Ends, alone-itself, alone-edit, plain, plain-cwd, keeps-make, keeps-stat_of}

-- ---- worlds

-- a descriptor's open file is set
plain-open : (w v : World) → Alone w v → (c d : ℕ) (o : Open) → (o.dead ≡ true → is_dead_open (get w.opens (c, d)) ≡ true) → Plain w (rows.with_open v c d o)
plain-open w v h c d o dead =
    let new : World = rows.with_open v c d o in
    let more = opens-insert v.opens (c, d) o in
    let before = live-parts w in
    let after : live new ≡ live_opens new.opens + live_cwds v.cwds = live-parts new in
    let opens = ap live_opens h.0 in
    let cwds = ap live_cwds h.1 in
    record { most = omega arith; leaving = h.2; flags = no_flag-through w v new (no_flag w v h.0 h.1) (record { opens = λ k e. no_flag-open v.opens (c, d) o (λ e. ap (λ m. is_dead_open (get m (c, d))) h.0 ∙ dead e) k e; cwds = λ c e. e }) }

plain-close : (w : World) (c d : ℕ) (o : Open) → get w.opens (c, d) ≡ Some o → Plain w (record w { opens = remove w.opens (c, d) })
plain-close w c d o is =
    let new : World = record w { opens = remove w.opens (c, d) } in
    let less = opens-remove w.opens (c, d) o is in
    let before = live-parts w in
    let after : live new ≡ live_opens new.opens + live_cwds w.cwds = live-parts new in
    record { most = omega arith; leaving = refl; flags = record { opens = λ k e. no_flag-close w.opens (c, d) k e; cwds = λ c e. e } }

plain-resize : (w : World) (p : Seen) (n : ℕ) → Plain w (rows.resize_at w p n)
plain-resize w p n = plain w (rows.resize_at w p n) (alone-edit w p (λ t i. resized t i n))

-- ---- descriptors

keeps-opened : (N : Inner → Type 0) (x : Option Open) → Keeps (λ o. x ≡ Some o) N (rows.opened x)
keeps-opened N (Some o) = found_so refl
keeps-opened N None = refused

pub keeps-descriptor : (w : World) (c d : ℕ) → Keeps (λ o. get w.opens (c, d) ≡ Some o) (MakesNode w) (rows.descriptor w c d)
keeps-descriptor w c d = keeps-opened (MakesNode w) (get w.opens (c, d))

keeps-free_case : (N : Inner → Type 0) (next : Doing ℕ) (d : ℕ) (b : Bool) → Keeps Any N next → Keeps Any N (rows.free_case next d b)
keeps-free_case N next d true h = h
keeps-free_case N next d false h = found_so tt

pub keeps-free_from : (N : Inner → Type 0) (k : ℕ) (w : World) (c d : ℕ) → Keeps Any N (rows.free_from k w c d)
keeps-free_from N zero w c d = refused
keeps-free_from N (suc k) w c d = keeps-free_case N (rows.free_from k w c (d + 1)) d (is_some (get w.opens (c, d))) (keeps-free_from N k w c (d + 1))

-- ---- open(2)

alone-cut : (b : Bool) (w : World) (p : Seen) → Alone w (rows.cut_to b w p)
alone-cut true w p = alone-edit w p (λ t i. resized t i 0)
alone-cut false w p = alone-itself w

pub keeps-copied_for : (b : Bool) (w : World) (p : Seen) → Ready w p → Keeps Any (MakesNode w) (rows.copied_for b w p)
keeps-copied_for true w p ready = keeps-copied w p ready
keeps-copied_for false w p ready = found_so tt

keeps-open_there : (w : World) (c fd : ℕ) (f : Flags) (p : Seen) → Ready w p → Keeps (Ends w) (MakesNode w) (rows.open_there w c fd f p)
keeps-open_there w c fd f p ready =
    unless (is_dir (facts_of w) p && rows.writes f.access) _ (λ _.
    unless (not (is_dir (facts_of w) p) && f.dir) _ (λ _.
    then (rows.copied_for (rows.writes f.access) w p) (keeps-copied_for (rows.writes f.access) w p ready) (λ _ _.
    found_so (plain-open w (rows.cut_to f.cut w p) (alone-cut f.cut w p) c fd (record { place = p; offset = 0; mode = rows.mode_of f; dead = false }) (λ e. cc), refl))))

keeps-open_made : (w : World) (c fd : ℕ) (f : Flags) (d : Seen) (n : List ℕ) → Keeps (Ends w) (MakesNode w) (rows.open_made w c fd f d n)
keeps-open_made w c fd f d n =
    then (make_at w d n (File [])) (keeps-make w d n (File [])) (λ new h.
    found_so (plain-open w new h c fd (record { place = rows.place_in d (next_of (get w.stores (base (facts_of w) d).store)); offset = 0; mode = rows.mode_of f; dead = false }) (λ e. cc), refl))

keeps-open_found : (w : World) (c fd : ℕ) (f : Flags) (a : Found) → FreeFound (facts_of w) a → Well w a → Keeps (Ends w) (MakesNode w) (rows.open_found w c fd f a)
keeps-open_found w c fd f (found.At p) fa wa = keeps-open_there w c fd f p (ready_at w (found.At p) p wa refl)
keeps-open_found w c fd f (found.In d n None) fa wa = keeps-open_made w c fd f d n
keeps-open_found w c fd f (found.In d n (Some p)) fa wa = refused
keeps-open_found w c fd f (found.Dot d) fa wa = refused
keeps-open_found w c fd f (found.Mount m) fa wa = refused
keeps-open_found w c fd f (found.Refused e) fa wa = refused
keeps-open_found w c fd f (found.Need x) fa wa = keeps-shadow w x fa

pub keeps-open_file : (w : World) (c : ℕ) (f : Flags) (a : Found) → FreeFound (facts_of w) a → Well w a → Keeps (Ends w) (MakesNode w) (rows.open_file w c f a)
keeps-open_file w c f a fa wa =
    unless (not (rows.are_flags f)) _ (λ _.
    then (rows.free_descriptor w c) (keeps-free_from (MakesNode w) 32 w c 0) (λ fd _.
    unless (not (nat_lt (len w.opens) w.limits.files)) _ (λ _. keeps-open_found w c fd f a fa wa)))

pub keeps-close : (w : World) (c d : ℕ) → Keeps (Ends w) (MakesNode w) (rows.close w c d)
keeps-close w c d = then (rows.descriptor w c d) (keeps-descriptor w c d) (λ o is. found_so (plain-close w c d o is, refl))

-- ---- read(2) and pread(2)

pub keeps-check_read : (w : World) (o : Open) (n : ℕ) → Keeps Any (MakesNode w) (rows.check_read w o n)
keeps-check_read w o n =
    unless o.dead _ (λ _. unless (not o.mode.read) _ (λ _. unless (is_dir (facts_of w) o.place) _ (λ _. check (nat_lt rows.most_moved n) _)))

plain-offset : (w : World) (c d : ℕ) (o : Open) → get w.opens (c, d) ≡ Some o → (at : ℕ) → Plain w (rows.with_offset w c d o at)
plain-offset w c d o is at = plain-open w w (alone-itself w) c d (record o { offset = at }) (λ e. ap is_dead_open is ∙ e)

pub keeps-read : (w : World) (c d n : ℕ) → Keeps (Ends w) (MakesNode w) (rows.read w c d n)
keeps-read w c d n =
    then (rows.descriptor w c d) (keeps-descriptor w c d) (λ o is.
    then (rows.check_read w o n) (keeps-check_read w o n) (λ _ _.
    found_so (plain-offset w c d o is (o.offset + length (rows.piece (rows.bytes_of w o.place) o.offset n)), refl)))

pub keeps-pread : (w : World) (c d n at : ℕ) → Keeps (Ends w) (MakesNode w) (rows.pread w c d n at)
keeps-pread w c d n at =
    then (rows.descriptor w c d) (keeps-descriptor w c d) (λ o _.
    then (rows.check_read w o n) (keeps-check_read w o n) (λ _ _. found_so (plain w w (alone-itself w), refl)))

-- ---- write(2) and pwrite(2)

pub keeps-check_write : (w : World) (o : Open) (bytes : List ℕ) → Keeps Any (MakesNode w) (rows.check_write o bytes)
keeps-check_write w o bytes = unless o.dead _ (λ _. unless (not o.mode.write) _ (λ _. check (nat_lt rows.most_moved (length bytes)) _))

keeps-write_at : (w : World) (o : Open) (at : ℕ) (bytes : List ℕ) → Keeps (λ x. Alone w x.0) (MakesNode w) (rows.write_at w o at bytes)
keeps-write_at w o at bytes =
    unless (nat_lt rows.most_bytes (at + length bytes)) _ (λ _. found_so (alone-edit w o.place (λ t i. written t i at bytes)))

keeps-write_some : (w : World) (c d : ℕ) (o : Open) → get w.opens (c, d) ≡ Some o → (bytes : List ℕ) → Keeps (Ends w) (MakesNode w) (rows.write_some w c d o bytes)
keeps-write_some w c d o is [] = found_so (plain w w (alone-itself w), refl)
keeps-write_some w c d o is (b ∷ bs) =
    then (rows.write_at w o (rows.write_to w o o.offset) (b ∷ bs)) (keeps-write_at w o (rows.write_to w o o.offset) (b ∷ bs)) (λ new h.
    found_so (plain-open w new.0 h c d (record o { offset = new.1 }) (λ e. ap is_dead_open is ∙ e), refl))

pub keeps-write : (w : World) (c d : ℕ) (bytes : List ℕ) → Keeps (Ends w) (MakesNode w) (rows.write w c d bytes)
keeps-write w c d bytes =
    then (rows.descriptor w c d) (keeps-descriptor w c d) (λ o is.
    then (rows.check_write o bytes) (keeps-check_write w o bytes) (λ _ _. keeps-write_some w c d o is bytes))

keeps-pwrite_some : (w : World) (o : Open) (at : ℕ) (bytes : List ℕ) → Keeps (Ends w) (MakesNode w) (rows.pwrite_some w o at bytes)
keeps-pwrite_some w o at [] = found_so (plain w w (alone-itself w), refl)
keeps-pwrite_some w o at (b ∷ bs) =
    then (rows.write_at w o (rows.write_to w o at) (b ∷ bs)) (keeps-write_at w o (rows.write_to w o at) (b ∷ bs)) (λ new h. found_so (plain w new.0 h, refl))

pub keeps-pwrite : (w : World) (c d at : ℕ) (bytes : List ℕ) → Keeps (Ends w) (MakesNode w) (rows.pwrite w c d at bytes)
keeps-pwrite w c d at bytes =
    then (rows.descriptor w c d) (keeps-descriptor w c d) (λ o _.
    then (rows.check_write o bytes) (keeps-check_write w o bytes) (λ _ _. keeps-pwrite_some w o at bytes))

-- ---- lseek(2)

pub keeps-offset_of : (w : World) (i : ℤ) → Keeps Any (MakesNode w) (rows.offset_of i)
keeps-offset_of w (pos n) = unless (nat_lt 4294967295 n) _ (λ _. found_so tt)
keeps-offset_of w (negsuc n) = refused

pub keeps-lseek : (w : World) (c d : ℕ) (h : Whence) (i : ℤ) → Keeps (Ends w) (MakesNode w) (rows.lseek w c d h i)
keeps-lseek w c d h i =
    then (rows.descriptor w c d) (keeps-descriptor w c d) (λ o is.
    unless o.dead _ (λ _.
    then (rows.offset_of (pos (rows.seek_from w o h) +ℤ i)) (keeps-offset_of w (pos (rows.seek_from w o h) +ℤ i)) (λ at _. found_so (plain-offset w c d o is at, refl))))

-- ---- truncate(2) and ftruncate(2)

pub keeps-check_length : (w : World) (p : Seen) (n : ℕ) → Ready w p → Keeps Any (MakesNode w) (rows.check_length w p n)
keeps-check_length w p n ready = unless (is_dir (facts_of w) p) _ (λ _. unless (nat_lt rows.most_bytes n) _ (λ _. keeps-copied w p ready))

pub keeps-truncate : (w : World) (a : Found) (n : ℕ) → FreeFound (facts_of w) a → Well w a → Keeps (Ends w) (MakesNode w) (rows.truncate w a n)
keeps-truncate w a n fa wa =
    then (place_at w a) (keeps-found_at w a fa) (λ p is.
    then (rows.check_length w p n) (keeps-check_length w p n (ready_at w a p wa is)) (λ _ _. found_so (plain-resize w p n, refl)))

pub keeps-open_length : (w : World) (c d n : ℕ) → Keeps Any (MakesNode w) (rows.open_length w c d n)
keeps-open_length w c d n =
    then (rows.descriptor w c d) (keeps-descriptor w c d) (λ o _.
    unless o.dead _ (λ _. unless (not o.mode.write) _ (λ _. unless (nat_lt rows.most_bytes n) _ (λ _. found_so tt))))

pub keeps-ftruncate : (w : World) (c d n : ℕ) → Keeps (Ends w) (MakesNode w) (rows.ftruncate w c d n)
keeps-ftruncate w c d n = then (rows.open_length w c d n) (keeps-open_length w c d n) (λ p _. found_so (plain-resize w p n, refl))

-- ---- what is known of an open file

pub keeps-fstat : (w : World) (c d : ℕ) → Keeps (Ends w) (MakesNode w) (rows.fstat w c d)
keeps-fstat w c d =
    then (rows.descriptor w c d) (keeps-descriptor w c d) (λ o _.
    unless o.dead _ (λ _.
    then (stat_of (node_of w o.place)) (keeps-stat_of (MakesNode w) (node_of w o.place)) (λ known e. found_so (plain w w (alone-itself w), e))))

pub keeps-readdir : (w : World) (c d : ℕ) → Keeps (Ends w) (MakesNode w) (rows.readdir w c d)
keeps-readdir w c d =
    then (rows.descriptor w c d) (keeps-descriptor w c d) (λ o _.
    unless o.dead _ (λ _.
    unless (not (is_dir (facts_of w) o.place)) _ (λ _.
    then (lifted w (visible w o.place)) (keeps-lifted w (visible w o.place) (free-visible w o.place)) (λ names _. found_so (plain w w (alone-itself w), refl)))))

keeps-open_dir : (w : World) (c d : ℕ) → Keeps Any (MakesNode w) (rows.open_dir w c d)
keeps-open_dir w c d =
    then (rows.descriptor w c d) (keeps-descriptor w c d) (λ o _.
    unless o.dead _ (λ _. unless (not (is_dir (facts_of w) o.place)) _ (λ _. found_so tt)))

pub keeps-fchdir : (w : World) (c d : ℕ) → Keeps (Ends w) (MakesNode w) (rows.fchdir w c d)
keeps-fchdir w c d = then (rows.open_dir w c d) (keeps-open_dir w c d) (λ p _. found_so (plain-cwd w c p, refl))
