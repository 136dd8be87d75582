-- Worked texts of acts and certificates.
use Rattle.std.specs.Prelude.{◌≡◌, true, false, Some, None, List, [], ◌∷◌, ◌++◌, codes}
use Rattle.lx_caps.specs.declared.Principal.TheVariants.{Kernel, Shared, Global, Inst}
use Rattle.lx_caps.specs.declared.Cap.TheVariants as cap
use Rattle.lx_caps.specs.declared.Atom.TheVariants as atom
use Rattle.lx_caps.specs.declared.Act.{Act}
use Rattle.lx_caps.specs.declared.Act.TheVariants.{Grant, Strip, Zero, Loan, Lend, Shut, ShutAll}
use Rattle.lx_annot.specs.Rows as annotations
use Rattle.lx_certificates.specs.declared.Cert.TheVariants.{Allow, Deny, Borrowed}
use Rattle.lx_model.specs.declared.program.Program.{Program}
use Rattle.lx_model.specs.declared.account.InstanceName.{InstanceName}
use Rattle.lx_model.specs.Program.{empty_module}
use Rattle.lx_why_text.specs.declared.Certified.{Certified}
use Rattle.lx_why_text.specs.Text.{act_line, certified_line, why_text}

-- a program of one module, `m`
abbrev program : Program
program =
    record {
      kernel = empty_module;
      modules = record { name = codes "m"; «module» = empty_module } ∷ [];
      functions = [];
      globals = [];
      interface = annotations.interface;
    }

-- an instance of it, by its first name and a further one
abbrev names : List InstanceName
names = record { «module» = 0; instance = 0; value = 0x2000000 } ∷ record { «module» = 0; instance = 0; value = 0x2000040 } ∷ []

-- a global of seven bytes and a function are granted when the run opens; then a call ends
abbrev called : List Act
called =
    Grant (Shared 0) (cap.Write 0x1000000 7) ∷ Grant (Shared 0) (cap.Call 0x10060) ∷ Strip (cap.Write 0x3000000 65536)
    ∷ ShutAll 0 ∷ []

-- a store past the end of the global
abbrev past : Certified
past =
    record {
      event = 1;
      thread = 0;
      cert = Deny (Shared 0) (cap.Write 0x1000000 8) (atom.Byte 0x1000007) None;
    }

-- a store within one
abbrev within : Certified
within =
    record {
      event = 12;
      thread = 0;
      cert = Allow (Shared 0) (cap.Write 0x10000e0 8) false (record { low = 0x10000e0; size = 8; act = 0 } ∷ []);
    }

-- a call of a function that was never granted
abbrev uncalled : Certified
uncalled = record { event = 17; thread = 0; cert = Deny (Shared 0) (cap.Call 0x10100) (atom.Call 0x10100) None }

-- bytes of two acts that an instance gives away
abbrev given_on : Certified
given_on =
    record {
      event = 20;
      thread = 3;
      cert =
          Allow (Inst 0 0) (cap.Write 0x2000000 32) true
          (record { low = 0x2000000; size = 24; act = 4 } ∷ record { low = 0x2000018; size = 8; act = 11 } ∷ []);
    }

-- bytes on loan that an instance gives away
abbrev lent : Certified
lent =
    record {
      event = 30;
      thread = 1;
      cert = Borrowed (Inst 0 0) (cap.Write 0x2000000 24) (atom.Byte 0x2000010) 5;
    }

-- a device that was taken
abbrev taken : Certified
taken =
    record {
      event = 31;
      thread = 0;
      cert = Deny (Global 0) (cap.Ref 0 0x1000020) (atom.Ref 0 0x1000020) (Some 6);
    }

pub record WorkedCertificateTexts : Type 0 where
  -- a store past the end: the acts from 0 on, and why it was refused
  pub past_the_end : why_text program [] called (past ∷ []) ≡
      codes "act 0 grant m.shared write 0x1000000+7\n" ++ codes "act 1 grant m.shared call 0x10060\n"
      ++ codes "act 2 strip write 0x3000000+65536\n" ++ codes "act 3 shutall 0\n"
      ++ codes "1 0 deny m.shared write 0x1000000+8 atom 0x1000007 strip none\n"
  -- certificates stand in their order
  pub in_order : why_text program [] [] (within ∷ uncalled ∷ []) ≡
      codes "12 0 allow m.shared write 0x10000e0+8 0x10000e0+8@0\n"
      ++ codes "17 0 deny m.shared call 0x10100 atom 0x10100 strip none\n"
  -- what must be kept, by two acts
  pub kept : certified_line program names given_on ≡
      codes "20 3 keep m[0x2000000] write 0x2000000+32 0x2000000+24@4 0x2000018+8@11\n"
  pub borrowed : certified_line program names lent ≡ codes "30 1 borrowed m[0x2000000] write 0x2000000+24 atom 0x2000010 loan 5\n"
  pub stripped : certified_line program names taken ≡ codes "31 0 deny m.global ref device 0x1000020 atom 0x1000020 strip 6\n"
  -- acts on loans
  pub loan : act_line program names (4, Loan 3) ≡ codes "act 4 loan 3\n"
  pub lend : act_line program names (5, Lend 3 (Inst 0 0) (cap.Write 0x2000000 24)) ≡ codes "act 5 lend 3 m[0x2000000] write 0x2000000+24\n"
  pub shut : act_line program names (10, Shut 3 1) ≡ codes "act 10 shut 3 1\n"
  pub of_kernel : act_line program names (11, Grant Kernel (cap.Ref 0 0x1000020)) ≡ codes "act 11 grant kernel ref device 0x1000020\n"
  -- an act without a line is counted
  pub zeroed : why_text program names (Zero 0x2000000 24 ∷ Loan 3 ∷ []) [] ≡ codes "act 1 loan 3\n"
