-- The words are those of the header, by computation.
use mathlib.Core.Path.{◌≡◌, refl}
use Rattle.layout.specs.Layout.{setup_fields, node_fields, console_fields, cell_fields, release_number, state_number, owner_word, frame_number, frame_tag, frame_value}
use Rattle.layout.specs.Header.{as_written, in_the_header}

pub header_holds : as_written ≡ in_the_header
unfolding as_written in_the_header setup_fields node_fields console_fields cell_fields release_number state_number owner_word
    frame_number frame_tag frame_value
header_holds = refl
