-- The command that a data stage spells. Document 01, "DNLOAD". Assumes nothing.
use Rattle.std.specs.Prelude.{List, ℕ, ◌+◌, ◌*◌, get_or}
use Rattle.command.specs.declared.Command.{Command}

-- "DNLOAD": the command byte, and "four address bytes, low first"; 0 where the data stage q has none
unfoldable pub command_of : List ℕ → Command
command_of q = record { code = get_or q 0 0; address = get_or q 1 0 + get_or q 2 0 * 0x100 + get_or q 3 0 * 0x10000 + get_or q 4 0 * 0x1000000 }
