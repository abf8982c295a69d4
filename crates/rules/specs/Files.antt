-- Files: upload, delete, purge. The state keeps how much of the file area is used: where a byte goes and how much room there is are told from that, and what changes
-- the directory changes it too.
-- Assumes nothing.
use Rattle.std.specs.Prelude.{None, List, [], ◌∷◌, Bool, true, false, cond, not, ◌&&◌, ◌||◌, ℕ, ◌+◌, ◌-◌, ◌%◌, eqb, leb, ltb}
use Rattle.refusals.specs.Refusals.{number_out_of_range, unknown_type, no_space, number_in_use, upload_aborted}
use Rattle.directory.specs.Directory.{length_of, entries, bytes_in, has_file, find_of, found_number, found_size, max_records}
use Rattle.files.specs.Files.{unused_of, entry, appended, deleted, purged, stored_byte}
use Rattle.state.specs.declared.Phase.TheVariants.{Idle, Upload}
use Rattle.state.specs.Editions.{newer, patience}
use Rattle.state.specs.State.{start_text}
use Rattle.rules.specs.World.{World, height, edition, port, used, with_store, with_used, put_text, Outcome, done, quietly, refused, refuse_if}
use Rattle.rules.specs.Numbers.{too_high}
use Rattle.rules.specs.Text.{with_font}
use Rattle.rules.specs.Pictures.{in_phase}

-- 25: font 1 always, or the sort has the number already
abbrev pub in_use : List ℕ → ℕ → ℕ → Bool
in_use s sort number = (eqb sort 1 && eqb number 1) || has_file (entries s) sort number

-- the kind of record that an edition writes for a sort, whatever the number and the size
abbrev pub kind_of : ℕ → ℕ → ℕ
kind_of e sort = cond (eqb e newer) (cond (eqb sort 1) 3 4) sort

-- 24, with records up to byte `end` and so many bytes of the file area unused: size 0, all records together over 255 bytes, or more than is unused; no store has
-- room for 65,536 (proofs, GoodStore)
unfoldable pub lacks_space : ℕ → ℕ → ℕ → ℕ → Bool
lacks_space end unused kind size = eqb size 0 || ltb max_records (end + length_of kind) || ltb unused size || leb 65536 size

-- the refusal with its reply
abbrev pub tell_if : Bool → ℕ → Outcome → Outcome
tell_if bad n rest = cond bad (refused n (8 ∷ [])) rest

-- number and size: 19, 25, 24 with reply 8, else reply 1
unfoldable pub begin_upload : World → ℕ → ℕ → ℕ → Outcome
begin_upload w sort number size =
    tell_if (too_high number) number_out_of_range
    (tell_if (in_use w.store sort number) number_in_use
    (tell_if (lacks_space (bytes_in (entries w.store)) (unused_of w.store (used w)) (kind_of (edition w) sort) size) no_space
    (done (in_phase w (Upload sort number size 0 false 0 0)) (1 ∷ []))))

-- a data byte is echoed, and waits
abbrev pub echoed : World → ℕ → ℕ → ℕ → ℕ → ℕ → Outcome
echoed w sort number size stored b = done (in_phase w (Upload sort number size stored true b 0)) (b ∷ [])

-- confirmed it is stored at the next free byte; at the last one the record is written, and the file's size is used: two bytes hold the sum (proofs, GoodStore)
abbrev pub confirmed : World → ℕ → ℕ → ℕ → ℕ → ℕ → World
confirmed w sort number size stored byte =
    cond (ltb (stored + 1) size) (in_phase (with_store w (stored_byte w.store (used w) stored byte)) (Upload sort number size (stored + 1) false 0 0))
    (in_phase
    (with_used (with_store w (appended (stored_byte w.store (used w) stored byte) (entry (kind_of (edition w) sort) number size))) ((used w + size) % 65536)) Idle)

-- 26, with no reply
unfoldable pub upload_data : World → ℕ → ℕ → ℕ → ℕ → Bool → ℕ → ℕ → Outcome
upload_data w sort number size stored false byte b = echoed w sort number size stored b
upload_data w sort number size stored true byte b = refuse_if (not (eqb b 1)) upload_aborted (quietly (confirmed w sort number size stored byte))

-- so many milliseconds pass: they add up since the upload's start or its last byte, and one that has waited too long is dropped: 26, with reply 254 212
unfoldable pub upload_waits : World → ℕ → ℕ → ℕ → ℕ → Bool → ℕ → ℕ → ℕ → Outcome
upload_waits w sort number size stored waiting held waited ms =
    cond (leb patience (waited + ms)) (refused upload_aborted (254 ∷ 212 ∷ [])) (quietly (in_phase w (Upload sort number size stored waiting held (waited + ms))))

-- a deleted font that was the current one leaves font 1
abbrev pub unchosen : World → ℕ → ℕ → World
unchosen w sort number = cond (eqb sort 1 && eqb number (port w).text.font) (put_text w (with_font (port w).text 1)) w

-- type 0 a font, 1 a bitmap: 20, 19, 22; the room of the file is free
unfoldable pub delete_file : World → ℕ → ℕ → Outcome
delete_file w type number =
    refuse_if (leb 2 type) unknown_type
    (refuse_if (too_high number) number_out_of_range
    (refuse_if (not (has_file (entries w.store) (type + 1) number)) (found_number None)
    (quietly
    (unchosen (with_used (with_store w (deleted w.store (type + 1) number)) (used w - found_size (find_of w.store (type + 1) number))) (type + 1) number))))

-- 20; nothing is used, text settings back to the start, the text point home
unfoldable pub purge : World → ℕ → ℕ → Outcome
purge w a b =
    refuse_if (not (eqb a 89 && eqb b 33)) unknown_type (quietly (put_text (with_used (with_store w (purged w.store)) 0) (start_text (height w))))
