-- A line of spaces, with the digits of both numbers and the line feed put in. Assumes nothing.
use Rattle.listing.specs.Listing.{text_line}
use Rattle.listing.proofs.line.Goals as goal

pub returns : goal.returns
unfolding text_line
returns c =
    let address = c.put_hexadecimal.ensures in
    rw (address, rw address at c.put_hexadecimal-2.ensures)
