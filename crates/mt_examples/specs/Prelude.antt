-- The words of this project that the examples are written with, passed on from one place. Declares nothing.
pub use Rattle.mt_peers.specs.declared.state.Kind.TheVariants.{Slave, Shared, Unbindable, Private}
pub use Rattle.mt_book.specs.declared.command.Command.{Command}
pub use Rattle.mt_examples.specs.Commands.{room, mkfs, mkdir, mount, setattr, words, ok, no, answers_then, lines, shown, posted, copyns, copyns_less, dropns, umount, detach, make, number, answers_from, newns, bind, answers, exists, make_all, rbind, move, pivot, opentree, movetree, found, place}
pub use Rattle.mt_examples.specs.Starts.{private_root, shared_root}
unfoldable pub use Rattle.mt_examples.specs.Computing.{computed}
