-- What is written: the devices of a board as those of a board with these devices, lists one after the other, bytes, and counts of rises.
use Rattle.save_state.proofs.Names.{◌≡◌, ℕ, refl, BoardParts, devices_in, write, policies, devices, messages, layout, block_lists, elsewhere, write_append}
use Rattle.save_state.proofs.Names.{append_assoc, ◌+◌, ◌<◌, ◌++◌, List, [], length, get_or, append-nil, row_bytes, row_bytes-byte, row-more, number}
use Rattle.save_state.{proofs.Names.number_bytes, specs.private.Devices.board_with}

pub policies-of : (b : BoardParts) → write policies b ≡ write policies (board_with (devices_in b))
unfolding layout
policies-of b = refl

pub devices-of : (f : ℕ) (b : BoardParts) → write (devices f) b ≡ write (devices f) (board_with (devices_in b))
unfolding layout block_lists elsewhere
devices-of f b = refl

pub messages-of : (n : ℕ) (b : BoardParts) → write (messages n) b ≡ write (messages n) (board_with (devices_in b))
unfolding layout
messages-of n b = refl

pub ruleset lists_written = (write_append, append_assoc, policies-of, messages-of)

pub ruleset board_written = (write_append, append_assoc, devices-of)

-- bytes, one after the other
pub ruleset bytes_written = (append_assoc, append-nil, row_bytes-byte)

-- one count of rises more
pub rises-next : (n : ℕ) (xs : List ℕ) → n < length xs → row_bytes (number 8) (n + 1) xs ≡ row_bytes (number 8) n xs ++ number_bytes 8 (get_or xs n 0)
rises-next n xs less = row-more (number 8) 0 n xs less

pub rises-none : (xs : List ℕ) → row_bytes (number 8) 0 xs ≡ []
unfolding row_bytes
rises-none xs = refl

pub ruleset rises_written = (append_assoc, append-nil, rises-next, rises-none)
