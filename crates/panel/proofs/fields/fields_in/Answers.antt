-- In word order. Assumes nothing.
use Rattle.panel.specs.Fields.{fields_in}
use Rattle.panel.proofs.fields.fields_in.Goals as goal

pub returns : goal.returns
unfolding fields_in
returns c =
    λ k. record {
      cn = c.byte_at.ensures k;
      ch = c.byte_at-2.ensures k;
      cl = c.byte_at-3.ensures k;
      cm = c.byte_at-4.ensures k;
      cu = c.byte_at-5.ensures k;
      ca = c.byte_at-6.ensures k;
      aa = c.byte_at-7.ensures k;
      cb = c.byte_at-8.ensures k;
      ck = c.byte_at-9.ensures k;
      ak = c.byte_at-10.ensures k;
      pk = c.byte_at-11.ensures k;
      cd = c.byte_at-12.ensures k;
      cf = c.byte_at-13.ensures k;
      cg = c.byte_at-14.ensures k;
      cv = c.byte_at-15.ensures k;
      cc = c.byte_at-16.ensures k;
      cs = c.byte_at-17.ensures k;
      asb = c.byte_at-18.ensures k;
    }
