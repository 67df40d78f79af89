-- Turns: laws of a lane's turn; Commits: of a commit; Codes: of equal instructions.
-- Laws: Programs a lane's program in the bytes of a sheet.
pub mod Turns
pub mod Commits
pub mod Codes
pub mod Programs
