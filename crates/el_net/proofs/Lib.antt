mod Unmasking
mod Unpadding
