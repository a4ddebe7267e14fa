mod Texts
mod Parts
mod Entries
mod Drafts
mod Wholes
