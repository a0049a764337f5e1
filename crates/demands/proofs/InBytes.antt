-- The guide's requests byte by byte. Assumes nothing.
use mathlib.Core.Path.{refl}
use Rattle.pec.specs.Pec.{top_bit, shift, shifts, remainder, step, pec_from}
use Rattle.bus.specs.Bus.{eight, framed, write_of, read_address, read_of}
use Rattle.demands.specs.Asked.{InBytes}

pub in_bytes : InBytes
unfolding write_of read_of read_address framed eight pec_from step remainder shifts shift top_bit
in_bytes =
    record {
      capture = refl;
      apply = refl;
      counter = refl;
      flag = refl;
      status = refl;
      banks = refl;
      crc = refl;
      word = refl;
      identity = refl;
      revision = refl;
    }
