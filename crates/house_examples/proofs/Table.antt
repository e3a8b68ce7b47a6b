-- Every item of the table holds: one computation over the definitions.
use lib.Dec.{T}
use mathlib.Core.List.{flatten, flat_map}
use Rattle.words.specs.Words.{magnitude, u16_at, chunk, same}
use Rattle.format.specs.Format.{raised}
use Rattle.state.specs.State.{blank}
use Rattle.read_colour.specs.Colour as colour'
use Rattle.read_packets.specs.Packets as packets'
use Rattle.read_full.specs.Full.{black, copied}
use Rattle.read_brun.specs.Brun as brun'
use Rattle.read_lc.specs.Lc as lc'
use Rattle.read_ss2.specs.Ss2 as ss2'
use Rattle.read_chunk.specs.Chunk.{by_kind, sub_chunk}
use Rattle.house_least.specs.Least.{best, table, chosen, choose, better, via}
use Rattle.house_rows.specs.Row.{house_bytes, bytes, house, allowed, down, equal}
use Rattle.house_full.specs.Full.{brun_row, brun_body, all_zero, shorter, full_chunk}
use Rattle.house_cells.specs.Cells.{cells, behind, stretches, run}
use Rattle.house_packets.specs.Packets as house'
use Rattle.house_ss2.specs.Line as line'
use Rattle.house_ss2.specs.Delta as delta'
use Rattle.house_lc.specs.Line as lcLine'
use Rattle.house_lc.specs.Delta as lcDelta'
use Rattle.house_delta.specs.Delta.{delta_body, delta_chunk}
use Rattle.house_frame.specs.House.{colour_chunk, picture_chunk, house_chunks, framed, house_frame}
use Rattle.house_examples.specs.Numbers.{holds, all, up_from, stripes, numbers}

pub numbers_hold : T (all numbers)
unfolding all holds numbers up_from stripes blank by_kind sub_chunk same chunk magnitude u16_at colour'.colour colour'.packets colour'.packet_at
    colour'.packet_of colour'.count_of colour'.levels_ok colour'.level ss2'.ss2 ss2'.lines ss2'.line_at ss2'.last_at ss2'.word_of ss2'.line_walk
    packets'.packets packets'.packet_at packets'.packet_of packets'.pixels packets'.data_bytes lc'.lc lc'.rows lc'.row_at lc'.start_at black copied
    brun'.brun brun'.rows brun'.row brun'.packets brun'.packet_at brun'.packet_of brun'.data_bytes brun'.pixels raised house_bytes bytes house
    allowed down equal best table chosen choose better via brun_row brun_body all_zero shorter full_chunk cells behind stretches house'.packet_bytes
    house'.equals house'.repeats house'.up_to_repeat house'.first_packet house'.unit_packets house'.shortenings house'.gap_packets
    house'.stretch_packets house'.row_packets line'.counted line'.last_changes line'.line delta'.skip_word delta'.stretch_lines delta'.changed_rows
    delta'.line_count delta'.delta_body run lcLine'.line lcDelta'.up_to_last lcDelta'.first_row lcDelta'.row_count lcDelta'.delta_body delta_body
    flatten flat_map colour_chunk delta_chunk picture_chunk house_chunks framed house_frame
numbers_hold = tt
